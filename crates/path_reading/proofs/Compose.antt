-- The three calls put together.
use mathlib.Core.Path.{◌≡◌, refl, sym, ap, ◌∙◌, subst}
use mathlib.Core.Bool.{Bool, true, false, cond, ◌||◌}
use mathlib.Core.List.{List, [], ◌++◌}
use Prim.Native.Nat.{ℕ, ◌+◌, ◌-◌, ◌/◌, ◌≤◌, ◌<◌}
use native.Mathlib.Omega.{arith}
use lib.Dec.{T, ltb, not_T, nltb→le}
use lib.ListN.{length, get_or, take, drop, replicate, length-append, length-drop}
use lib.Ieee.{Float, nan, binary32, fits}
use Rattle.std.specs.Prelude.{Result, Ok, Err, IfOk, MatchResult}
use Rattle.refusal.specs.declared.Refusal.{Refusal}
use Rattle.refusal.specs.Rows.{first_row, answer_of, Accepted, Space}
use Rattle.trellis.specs.Isdb
use Rattle.trellis.specs.Isdb.{decoded}
use Rattle.trellis.specs.Lists.{laid}
use Rattle.trellis.specs.Step.{input, traced}
use Rattle.trellis.specs.Run.{Decoder, block, four_steps}
use Rattle.path_greatest.specs.Paths.{Reading}
use Rattle.trellis.specs.ListLaws.{length_upto}
use Rattle.isdb_fec.specs.declared.conv.ViterbiDecoder.{ViterbiDecoder}
use Rattle.isdb_fec.specs.declared.conv.Released.{Released}
use Rattle.isdb_fec.specs.Rows.{push_metrics_rows, flush_rows, reading_rows}
use Rattle.isdb_fec.specs.Calls.{call, flush, handed, best_state, Fresh, Leaves, Flushes, Unchanged}
use Rattle.refusal.proofs.RowLaws.{passed, err_refuses}
use Rattle.trellis.specs.LaidLaws.{take_laid, laid_after}
use Rattle.path_greatest.specs.declared.Start.{Start}
use Rattle.path_greatest.specs.Fresh.{start_values, StartsIn}
use Rattle.range_calls.specs.declared.TurnedBack.{TurnedBack}
use Rattle.range_calls.specs.Turned.{row_of, turned}
use Rattle.range_calls.specs.TurnedLaws.{same_row}
use Rattle.path_reading.specs.Calls.{fresh, read, state_of, with_before, Flushed, Left, GreatestSum}
use Rattle.path_reading.proofs.Accepts.{same_rows, short_rows, short_refused, flush_accepts, whole_accepts, reads}

-- the fresh decoder
pub fresh_is : (start : Start) (pm : List Float) (r : Result ViterbiDecoder Refusal) → start_values Isdb.states start ≡ pm → answer_of r ≡ Accepted → IfOk r (λ v. Fresh 128 pm v) → r ≡ Ok (fresh start)
fresh_is start pm (Ok v) s e f =
    let x = f.values ∙ sym s in
    let y = f.held_is in
    let z = f.traceback_is in
    λ i. Ok (record { pm = x i; held = y i; traceback = z i })
fresh_is start pm (Err row) s e f = absurd (err_refuses {row = row} e)

-- a flush behind the bits that are there
pub flushed : (before : Released) (rest : Result Released Refusal) (dec₁ dec₂ out₁ part end out₂ : List ℕ) → before.count ≤ length out₁ → part ≡ drop before.count out₁ → answer_of rest ≡ first_row (flush_rows before.dec (length dec₁) (length part)) → MatchResult rest (λ r. Flushes before.dec r dec₁ dec₂ part end) (λ _. Unchanged dec₁ dec₂ part end) → out₂ ≡ take before.count out₁ ++ end
    → Flushed before (with_before before.count rest) dec₁ dec₂ out₁ out₂
flushed before rest dec₁ dec₂ out₁ part end out₂ h e a l o = record {
  rest = rest;
  end = end;
  answers = a ∙ ap (λ (k : ℕ). first_row (flush_rows before.dec (length dec₁) k)) (ap length e ∙ length-drop before.count out₁);
  leaves = subst (λ (x : List ℕ). MatchResult rest (λ r. Flushes before.dec r dec₁ dec₂ x end) (λ _. Unchanged dec₁ dec₂ x end)) e l;
  out_is = o;
  after_is = refl;
}

-- no more bits than places
first_false : (a b : Bool) → (a || b) ≡ false → T a → ⊥
first_false true b e t = subst T e tt
first_false false b e t = t

pub flushed_few : (v : ViterbiDecoder) (rest : Released) (dec₁ dec₂ part end : List ℕ) → Accepted ≡ first_row (flush_rows v (length dec₁) (length part)) → Flushes v rest dec₁ dec₂ part end → rest.count ≤ length part
flushed_few v rest dec₁ dec₂ part end a l =
    let k = l.count_is in
    let h = nltb→le (length part) v.held (not_T (ltb (length part) v.held) (first_false (ltb (length part) v.held) (ltb (length dec₁) (block + v.traceback)) (passed (flush_rows v (length dec₁) (length part)) tt (sym a) Space))) in
    omega arith

-- what is promised of the whole; the last follows from the others
pub record All (start : Start) (xs : List Float) (r : Result Released TurnedBack) (decisions₀ decisions out₀ out : List ℕ) : Type 0 where
  pub answers : row_of r ≡ first_row (reading_rows xs (length decisions₀) (length out₀))
  pub leaves : Left start xs r decisions₀ decisions out₀ out
  pub greatest : GreatestSum start xs r (length decisions₀) (length out₀) out

-- of whole quadruples it is accepted
none_refused : (start : Start) (xs : List Float) (r : Result Released TurnedBack) (dec₀ dec₁ out₀ out₁ : List ℕ) → row_of r ≡ first_row (reading_rows xs (length dec₀) (length out₀)) → Left start xs r dec₀ dec₁ out₀ out₁ → GreatestSum start xs r (length dec₀) (length out₀) out₁
none_refused start xs (Err t) dec₀ dec₁ out₀ out₁ a l n m count few quads hd ho = absurd (err_refuses {row = t.row} (a ∙ whole_accepts start xs n m count few quads (length dec₀) (length out₀) hd ho))
none_refused start xs (Ok x) dec₀ dec₁ out₀ out₁ a g n m count few quads hd ho =
    let b = reads start xs n m count few quads in
    let d = read start xs in
    let k : length (flush d).bits ≡ n = b.best.path.count in
    let t : take n out₁ ≡ (flush d).bits = ap (λ (l : List ℕ). take n l) g.bits ∙ ap (λ (j : ℕ). take j (laid (flush d).bits out₀)) (sym k) ∙ take_laid (flush d).bits out₀ in
    (x, refl, g.count_is ∙ k, subst (λ (l : List ℕ). Reading Isdb.half Isdb.labels Isdb.rule (StartsIn Isdb.states start) m n l) (sym t) b)

all_of : (start : Start) (xs : List Float) (r : Result Released TurnedBack) (dec₀ dec₁ out₀ out₁ : List ℕ) → row_of r ≡ first_row (reading_rows xs (length dec₀) (length out₀)) → Left start xs r dec₀ dec₁ out₀ out₁ → All start xs r dec₀ dec₁ out₀ out₁
all_of start xs r dec₀ dec₁ out₀ out₁ a l = record { answers = a; leaves = l; greatest = none_refused start xs r dec₀ dec₁ out₀ out₁ a l }

-- what `push_metrics` says of the fresh decoder
abbrev Push : Start → List Float → Result Released Refusal → List ℕ → List ℕ → List ℕ → List ℕ → Type 0
Push start xs p dec₀ dec₁ out₀ out₁ =
    (answer_of p ≡ first_row (push_metrics_rows (fresh start) xs (length dec₀) (length out₀)))
    × MatchResult p (λ x. Leaves 128 (call 128 (four_steps xs) (handed (fresh start) dec₀) (length xs / 4)) x dec₀ dec₁ out₀ out₁) (λ _. Unchanged dec₀ dec₁ out₀ out₁)

-- too few places for the bits: `push_metrics` was lent the part [] of the decisions
pub short : (start : Start) (xs : List Float) (dec₀ dec₁ out₀ out₁ dec : List ℕ) (p : Result Released Refusal) → Push start xs p dec₀ dec₁ out₀ out₁ → length out₀ < length xs / 4 → dec₀ ≡ [] → All start xs (turned (fresh start) p) dec (dec₁ ++ dec) out₀ out₁
short start xs dec₀ dec₁ out₀ out₁ dec (Ok x) says h e =
    let a = says.0 ∙ ap (λ (l : List ℕ). first_row (push_metrics_rows (fresh start) xs (length l) (length out₀))) e ∙ short_rows start xs (length dec) (length out₀) h in
    absurd (short_refused start xs (length dec) (length out₀) h (sym a))
short start xs dec₀ dec₁ out₀ out₁ dec (Err row) says h e =
    let a = says.0 ∙ ap (λ (l : List ℕ). first_row (push_metrics_rows (fresh start) xs (length l) (length out₀))) e ∙ short_rows start xs (length dec) (length out₀) h in
    let u = says.1 in
    all_of start xs (Err (record { row = row; dec = fresh start })) dec (dec₁ ++ dec) out₀ out₁ a (refl, record { words = ap (λ (l : List ℕ). l ++ dec) (u.words ∙ e); bits = u.bits })

-- places enough, and `push_metrics` refuses
pub refused : (start : Start) (xs : List Float) (dec₀ dec₁ out₀ out₁ : List ℕ) (t : TurnedBack) → t.dec ≡ fresh start → Push start xs (Err t.row) dec₀ dec₁ out₀ out₁ → length xs / 4 ≤ length out₀ → All start xs (Err t) dec₀ dec₁ out₀ out₁
refused start xs dec₀ dec₁ out₀ out₁ t made says fits_out = all_of start xs (Err t) dec₀ dec₁ out₀ out₁ (says.0 ∙ same_rows start xs (length dec₀) (length out₀) fits_out) (made, says.1)

module _ (start : Start) (xs : List Float) (dec₀ dec₁ out₀ out₁ : List ℕ) (p : Released) (says : Push start xs (Ok p) dec₀ dec₁ out₀ out₁) where
  abbrev d : Decoder
  d = read start xs

  -- it accepts
  module _ (fits_out : length xs / 4 ≤ length out₀) where
    pa : Accepted ≡ first_row (reading_rows xs (length dec₀) (length out₀))
    pa = says.0 ∙ same_rows start xs (length dec₀) (length out₀) fits_out

    module _ (same-dec : length dec₁ ≡ length dec₀) (same_out : length out₁ ≡ length out₀) where
      left : Leaves 128 d p dec₀ dec₁ out₀ out₁
      left = says.1

      state_is : p.dec ≡ state_of d
      state_is =
          let a = left.values in
          let b = left.held_is in
          let c = left.traceback_is in
          λ i. record { pm = a i; held = b i; traceback = c i }

      held_words_lem : handed p.dec dec₁ ≡ record { values = d.values; words = d.words; bits = [] }
      held_words_lem =
          let a = left.values in
          let b : take p.dec.held dec₁ ≡ d.words = ap (λ (k : ℕ). take k dec₁) left.held_is ∙ ap (λ (l : List ℕ). take (length d.words) l) left.words ∙ take_laid d.words (cond (ltb 0 (length d.bits)) (laid (replicate (block + 128) 0) dec₀) dec₀) in
          λ i. record { values = a i; words = b i; bits = [] }

      pub count_fits : p.count ≤ length out₁
      count_fits =
          let c = left.count_is in
          let b = ap length left.bits ∙ length-append d.bits (drop (length d.bits) out₀) in
          omega arith

      module _ (fit : (i : ℕ) → T (fits binary32 (get_or xs i nan))) (r : Result Released Refusal) (dec₂ out₂ : List ℕ) (f : Flushed p r dec₁ dec₂ out₁ out₂) where
        answer_is : answer_of f.rest ≡ first_row (flush_rows (state_of d) (length dec₀) (length out₀ - length d.bits))
        answer_is =
            let c = left.count_is in
            let e : length out₁ - p.count ≡ length out₀ - length d.bits = omega arith in
            f.answers
            ∙ ap (λ (v : ViterbiDecoder). first_row (flush_rows v (length dec₁) (length out₁ - p.count))) state_is
            ∙ ap (λ (k : ℕ). first_row (flush_rows (state_of d) k (length out₁ - p.count))) same-dec
            ∙ ap (λ (k : ℕ). first_row (flush_rows (state_of d) (length dec₀) k)) e

        traced_count : length (decoded d) ≡ length d.words
        unfolding traced
        traced_count = length_upto (input 32 d.words (length d.words) (best_state d.values)) (length d.words)

        -- `flush` accepts
        finished : (rest : Result Released Refusal) → answer_of rest ≡ Accepted → MatchResult rest (λ x. Flushes p.dec x dec₁ dec₂ (drop p.count out₁) f.end) (λ _. Unchanged dec₁ dec₂ (drop p.count out₁) f.end) → Left start xs (turned (fresh start) (with_before p.count rest)) dec₀ dec₂ out₀ out₂
        finished (Err row) e g = absurd (err_refuses {row = row} e)
        finished (Ok x) e g =
            let c = left.count_is in
            let h = left.held_is in
            let n = length-append d.bits (decoded d) in
            let t = traced_count in
            let k = g.count_is in
            record {
              values = g.values ∙ left.values;
              held_is = g.held_is;
              traceback_is = g.traceback_is ∙ left.traceback_is;
              count_is = omega arith;
              words = g.words ∙ ap (λ (k : ℕ). laid (replicate k 0) dec₁) h ∙ ap (λ (l : List ℕ). laid (replicate (length d.words) 0) l) left.words;
              bits = f.out_is ∙ ap (λ (l : List ℕ). take p.count out₁ ++ l) g.bits
                  ∙ ap (λ (x : Decoder). take p.count out₁ ++ laid (flush x).bits (drop p.count out₁)) held_words_lem
                  ∙ ap (λ (k : ℕ). take k out₁ ++ laid (decoded d) (drop k out₁)) c
                  ∙ ap (λ (l : List ℕ). take (length d.bits) l ++ laid (decoded d) (drop (length d.bits) l)) left.bits
                  ∙ laid_after d.bits (decoded d) out₀;
            }

        same_answer : (rest : Result Released Refusal) → answer_of (with_before p.count rest) ≡ answer_of rest
        same_answer (Ok x) = refl
        same_answer (Err row) = refl

        pub accepted : All start xs (turned (fresh start) r) dec₀ dec₂ out₀ out₂
        accepted =
            let e = answer_is ∙ flush_accepts start xs fit (length dec₀) (length out₀) (sym pa) in
            let a : answer_of r ≡ Accepted = ap (λ (x : Result Released Refusal). answer_of x) f.after_is ∙ same_answer f.rest ∙ e in
            all_of start xs (turned (fresh start) r) dec₀ dec₂ out₀ out₂ (same_row (fresh start) r ∙ a ∙ pa)
            (subst (λ (x : Result Released Refusal). Left start xs (turned (fresh start) x) dec₀ dec₂ out₀ out₂) (sym f.after_is) (finished f.rest e f.leaves))
