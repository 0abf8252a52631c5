-- The three calls put together.
use mathlib.Core.Path.{◌≡◌, refl, sym, ap, ◌∙◌}
use mathlib.Core.Bool.{◌||◌}
use mathlib.Core.List.{List, [], ◌∷◌, ◌++◌}
use Prim.Native.Nat.{ℕ, ◌+◌, ◌-◌, ◌*◌, ◌/◌, ◌%◌, ◌≤◌}
use native.Mathlib.Omega.{arith}
use borrow.Author.Tests.{le-ltb}
use lib.Dec.{ltb}
use borrow.Rule.Slice.PartMut.{mid_of, put_mid}
use lib.ListN.{length, take, drop, replicate, length-append, length-drop}
use lib.Ieee.{Float}
use Rattle.std.specs.Prelude.{Result, Ok, Err, IfOk, MatchResult}
use Rattle.refusal.specs.declared.Refusal.{Refusal}
use Rattle.refusal.specs.Rows.{first_row, Answer, answer_of, Accepted, Space}
use Rattle.refusal.proofs.RowLaws.{none_accepted, err_refuses}
use Rattle.trellis.specs.Isdb
use Rattle.trellis.specs.Isdb.{flush_at}
use Rattle.trellis.specs.Lists.{laid}
use Rattle.trellis.specs.Run.{Decoder, block, start_at, depth, releases, pair_steps}
use Rattle.path_greatest.proofs.Corrected.{length_soft, soft_at_lem, known_end}
use Rattle.viterbi_core.specs.CountLaws.{Counted, releases_le}
use Rattle.viterbi_core.specs.HoldingLaws.{bare, holding_is}
use Rattle.trellis.specs.LaidLaws.{take_laid, laid_after}
use Rattle.viterbi_core.specs.PartLaws.{tail_whole, written_tail}
use Rattle.viterbi_core.specs.TracedLaws.{length_traced}
use Rattle.isdb_fec.specs.declared.conv.ViterbiDecoder.{ViterbiDecoder}
use Rattle.isdb_fec.specs.declared.conv.Released.{Released}
use Rattle.isdb_fec.specs.Rows.{stream_rest, push_rows, flush_rows}
use Rattle.isdb_fec.specs.Calls.{call, handed, Leaves, FlushesAt, Unchanged}
use Rattle.isdb_fec.specs.AnswerLaws.{flush_enough}
use Rattle.isdb_fec.proofs.TwoCallLaws.{soft_call}
use Rattle.range_calls.specs.Reached.{Reached, Floats, with_state}
use Rattle.range_calls.specs.Handed.{push_hands}
use Rattle.range_calls.proofs.Answers.{stream_answer, flush_answer}
use Rattle.range_calls.specs.Finished.{Finished}
use Rattle.trellis.proofs.RunLaws.{depth_range}
use Rattle.range_calls.specs.declared.TurnedBack.{TurnedBack}
use Rattle.range_calls.specs.Turned.{row_of, turned}
use Rattle.known_end.specs.Calls.{fresh, read, between_rows, Left, Corrects}
use Rattle.known_end.specs.Behind.{Behind}
use Rattle.known_end.proofs.Rows.{started, Passed, passed, fresh_passes, soft_rows}

-- ---- the theorem follows from the rows and from what is left
corrects : (tb s e : ℕ) (xs : List Float) (r : Result Released TurnedBack) (dec₀ dec out₀ out : List ℕ) → row_of r ≡ first_row (between_rows tb xs (length dec₀) (length out₀)) → Left tb s e xs r dec₀ dec out₀ out
    → Corrects tb s e xs r (length dec₀) (length out₀) out
corrects tb s e xs r dec₀ dec out₀ out a l us ps h few bits ends coded count four is =
    let n : length xs / 2 ≡ length us = let k = ap length is ∙ length_soft ps in omega arith in
    let b : (flush_at e (read tb s xs)).bits ≡ us =
    ap (λ (k : ℕ). (flush_at e (call (depth tb) (pair_steps xs) (record { values = start_at 64 s; words = []; bits = [] }) k)).bits) n
    ∙ known_end Isdb.rule (depth tb) (depth_range tb h).0 s e us ps few bits coded count ends four (pair_steps xs)
    (λ k g. let p = soft_at_lem ps k (omega arith) in rw (is, p.0, p.1) refl) in (
      a ∙ ap (λ (x : List Float). first_row (between_rows tb x (length dec₀) (length out₀))) is ∙ soft_rows tb ps (length dec₀) (length out₀) h
          ∙ ap (λ (k : ℕ). first_row ((Space, ltb (length out₀) k || ltb (length dec₀) (block + depth tb)) ∷ [])) count,
      λ x y.
          let g = rw y at l in (
            g.count_is ∙ ap length b,
            ap (λ (x : List ℕ). take (length us) x) g.bits ∙ ap (λ (x : List ℕ). take (length us) (laid x out₀)) b ∙ take_laid us out₀,
          ),
    )

-- what is promised of the whole
abbrev pub Meets : ℕ → ℕ → ℕ → List Float → Result Released TurnedBack → List ℕ → List ℕ → List ℕ → List ℕ → Type 0
Meets tb s e xs r dec₀ dec out₀ out =
    (row_of r ≡ first_row (between_rows tb xs (length dec₀) (length out₀))) × Left tb s e xs r dec₀ dec out₀ out × Corrects tb s e xs r (length dec₀) (length out₀) out

meets : (tb s e : ℕ) (xs : List Float) (r : Result Released TurnedBack) (dec₀ dec out₀ out : List ℕ) → row_of r ≡ first_row (between_rows tb xs (length dec₀) (length out₀)) → Left tb s e xs r dec₀ dec out₀ out
    → Meets tb s e xs r dec₀ dec out₀ out
meets tb s e xs r dec₀ dec out₀ out a l = (a, l, corrects tb s e xs r dec₀ dec out₀ out a l)

-- ---- refused: the fresh decoder, and nothing is written
pub turned_back : (tb s e : ℕ) (xs : List Float) (t : TurnedBack) (dec out : List ℕ) → t.dec ≡ fresh tb s → Err t.row ≡ first_row (between_rows tb xs (length dec) (length out)) → Meets tb s e xs (Err t) dec dec out out
turned_back tb s e xs t dec out made is = meets tb s e xs (Err t) dec dec out out is (made, record { words = refl; bits = refl })

-- ---- a flush behind the bits that are there: no more bits than places
pub few_bits : (e : ℕ) (v : ViterbiDecoder) (rest : Released) (dec₁ dec₂ part end : List ℕ) → Accepted ≡ first_row (flush_rows v (length dec₁) (length part)) → FlushesAt e v rest dec₁ dec₂ part end → rest.count ≤ length part
few_bits e v rest dec₁ dec₂ part end a l =
    let k = l.count_is in
    let h = (flush_enough v (length dec₁) (length part) a).room in
    omega arith

pub length_tail : (a : ℕ) (out : List ℕ) → a ≤ length out → length (mid_of a (length out - a) out) ≡ length out - a
length_tail a out h = ap length (tail_whole a out [] [] h) ∙ length-drop a out

pub answers_behind : (p : Released) (a : Answer) (dec₁ out₁ : List ℕ) → p.count ≤ length out₁ → a ≡ first_row (flush_rows p.dec (length dec₁) (length (mid_of p.count (length out₁ - p.count) out₁)))
    → a ≡ first_row (flush_rows p.dec (length dec₁) (length out₁ - p.count))
answers_behind p a dec₁ out₁ h is = is ∙ ap (λ (k : ℕ). first_row (flush_rows p.dec (length dec₁) k)) (length_tail p.count out₁ h)

pub behind : (e : ℕ) (p rest : Released) (dec₁ dec₂ out₁ end : List ℕ) → p.count ≤ length out₁ → FlushesAt e p.dec rest dec₁ dec₂ (mid_of p.count (length out₁ - p.count) out₁) end
    → Behind e p (record { dec = rest.dec; count = p.count + rest.count }) dec₁ dec₂ out₁ (put_mid p.count (length out₁ - p.count) out₁ end)
behind e p rest dec₁ dec₂ out₁ end h f =
    record {
      values = f.values;
      held_is = f.held_is;
      traceback_is = f.traceback_is;
      count_is = ap (λ (k : ℕ). p.count + k) f.count_is;
      words = f.words;
      bits = written_tail p.count out₁ end (flush_at e (handed p.dec dec₁)).bits h f.bits;
    }

-- ---- what `push` says of the fresh decoder
abbrev pub Push : ℕ → ℕ → List Float → Result Released Refusal → List ℕ → List ℕ → List ℕ → List ℕ → Type 0
Push tb s xs p dec₀ dec₁ out₀ out₁ =
    (answer_of p ≡ first_row (push_rows (started tb s) xs (length dec₀) (length out₀)))
    × MatchResult p (λ x. Leaves (depth tb) (call (depth tb) (pair_steps xs) (handed (started tb s) dec₀) (length xs / 2)) x dec₀ dec₁ out₀ out₁) (λ _. Unchanged dec₀ dec₁ out₀ out₁)

begun : (tb s : ℕ) → tb ≤ 1024 → Reached (started tb s)
begun tb s h = with_state tb s (fresh_passes tb h) (record { values = refl; held_is = refl; traceback_is = refl })

-- `push` accepts
push_accepts : (tb s : ℕ) (xs : List Float) (dec₀ out₀ : List ℕ) → first_row (between_rows tb xs (length dec₀) (length out₀)) ≡ Accepted → first_row (push_rows (started tb s) xs (length dec₀) (length out₀)) ≡ Accepted
push_accepts tb s xs dec₀ out₀ ok =
    let pass = passed tb xs (length dec₀) (length out₀) ok in
    let small = depth_range tb pass.traceback in
    let r = releases_le (depth tb) 0 (length xs / 2) small.1 in
    let o = pass.places in
    stream_answer (begun tb s pass.traceback) 2 xs (length dec₀) (length out₀)
    ∙ none_accepted (stream_rest 2 (started tb s) xs (length dec₀) (length out₀))
    (pass.whole, (pass.inside, (rw (le-ltb (length out₀) (block * releases (depth tb) 0 (length xs / 2)) (omega arith), le-ltb (length dec₀) (block + depth tb) pass.words) refl, tt)))

pub push_taken : (tb s : ℕ) (xs : List Float) (row : Refusal) (dec₀ dec₁ out₀ out₁ : List ℕ) → first_row (between_rows tb xs (length dec₀) (length out₀)) ≡ Accepted → Push tb s xs (Err row) dec₀ dec₁ out₀ out₁ → ⊥
push_taken tb s xs row dec₀ dec₁ out₀ out₁ ok says = err_refuses {row = row} (says.0 ∙ push_accepts tb s xs dec₀ out₀ ok)

module _ (tb s e : ℕ) (xs : List Float) (dec₀ dec₁ out₀ out₁ : List ℕ) (p : Released) (ok : first_row (between_rows tb xs (length dec₀) (length out₀)) ≡ Accepted)
    (says : Push tb s xs (Ok p) dec₀ dec₁ out₀ out₁) where
  abbrev n : ℕ
  n = length xs / 2

  abbrev d : Decoder
  d = read tb s xs

  pass : Passed tb xs (length dec₀) (length out₀)
  pass = passed tb xs (length dec₀) (length out₀) ok

  small : (1 ≤ depth tb) × (depth tb ≤ 1024)
  small = depth_range tb pass.traceback

  left : Leaves (depth tb) d p dec₀ dec₁ out₀ out₁
  left = says.1

  counts : Counted (depth tb) 0 0 n d
  counts = soft_call (pair_steps xs) n (depth tb) (record { values = start_at 64 s; words = []; bits = [] }) small.0 small.1 (omega arith)

  pub fits_out : p.count ≤ length out₁
  fits_out =
      let c = left.count_is in
      let b = ap length left.bits ∙ length-append d.bits (drop (length d.bits) out₀) in
      omega arith

  handed_on : handed p.dec dec₁ ≡ bare d
  handed_on =
      holding_is (depth tb) d dec₀ out₀ p.dec.pm p.dec.held p.count dec₁ out₁
      (record { values = left.values; held_is = left.held_is; count_is = left.count_is; words = left.words; bits = left.bits })

  module _ (fit : Floats xs) (same-dec : length dec₁ ≡ length dec₀) (same_out : length out₁ ≡ length out₀) (dec₂ out₂ : List ℕ) where
    -- `flush_at` accepts
    done : (a : Answer) → a ≡ first_row (flush_rows p.dec (length dec₁) (length out₁ - p.count)) → a ≡ Accepted
    done a is =
        let i = push_hands (begun tb s pass.traceback) dec₀ dec₁ out₀ out₁ (Ok p) xs fit says.0 says.1 in
        let w = counts.words_left in
        let o = counts.bits_out in
        let h = left.held_is in
        let c = left.count_is in
        let t = left.traceback_is in
        let g = pass.places in
        let k = pass.words in
        is ∙ flush_answer i (length dec₁) (length out₁ - p.count)
        ∙ none_accepted ((Space, ltb (length out₁ - p.count) p.dec.held || ltb (length dec₁) (block + p.dec.traceback)) ∷ [])
        (rw (le-ltb (length out₁ - p.count) p.dec.held (omega arith), le-ltb (length dec₁) (block + p.dec.traceback) (omega arith)) refl, tt)

    finished : (r : Released) → Behind e p r dec₁ dec₂ out₁ out₂ → Finished (depth tb) (flush_at e d).bits d r dec₀ dec₂ out₀ out₂
    finished r g =
        let c = left.count_is in
        let h = left.held_is in
        let m = length-append d.bits (Isdb.traced d.words (e % 64)) in
        let t = length_traced Isdb.half d.words (e % 64) in
        let k = g.count_is in
        record {
          values = g.values ∙ left.values;
          held_is = g.held_is;
          traceback_is = g.traceback_is ∙ left.traceback_is;
          count_is = omega arith;
          words = g.words ∙ ap (λ (k : ℕ). laid (replicate k 0) dec₁) h ∙ ap (λ (l : List ℕ). laid (replicate (length d.words) 0) l) left.words;
          bits =
              g.bits
              ∙ ap (λ (x : Decoder). take p.count out₁ ++ laid (flush_at e x).bits (drop p.count out₁)) handed_on
              ∙ ap (λ (k : ℕ). take k out₁ ++ laid (Isdb.traced d.words (e % 64)) (drop k out₁)) c
              ∙ ap (λ (l : List ℕ). take (length d.bits) l ++ laid (Isdb.traced d.words (e % 64)) (drop (length d.bits) l)) left.bits
              ∙ laid_after d.bits (Isdb.traced d.words (e % 64)) out₀;
        }

    pub accepted : (r : Result Released Refusal) → answer_of r ≡ first_row (flush_rows p.dec (length dec₁) (length out₁ - p.count)) → IfOk r (λ x. Behind e p x dec₁ dec₂ out₁ out₂) → Meets tb s e xs (turned (fresh tb s) r) dec₀ dec₂ out₀ out₂
    accepted (Ok x) a b = meets tb s e xs (Ok x) dec₀ dec₂ out₀ out₂ (sym ok) (finished x b)
    accepted (Err row) a b = absurd (err_refuses {row = row} (done (Err row) a))
