-- What the decision words of costs give, traced from the cheapest end: the inputs of the first path of greatest sum on the grid.
use Rattle.std.specs.Prelude.{◌≡◌, ◌⊎◌, Bool, true, false, cond, List, ℤ, T, eqb, get_or, replicate}
use Rattle.std.proofs.Math.Path.{refl}
use Rattle.std.proofs.Common.{sym, ap, ◌∙◌, subst, inl, inr, ⊎_elim, eqb→eq, lit≤, ext_get_or}
use Prim.Native.Nat.{ℕ, zero, suc, ◌+◌, ◌*◌, ◌/◌, ◌%◌, ◌^◌, ◌≤◌, ◌<◌}
use native.Mathlib.Omega.{arith}
use Rattle.std.proofs.Math.Dec.{eqb_refl}
use Rattle.std.proofs.lemmas.List.{get_or-replicate}
use Rattle.std.proofs.Math.ListN.{get_or-eq_default}
use Rattle.trellis.specs.WrittenLaws.{lt_or_ge}
use Rattle.ieee.specs.Whole.{hi_z, lo_z}
use Rattle.trellis.specs.Lists.{bit, upto}
use Rattle.trellis.specs.ListLaws.{length_upto, get_d_upto}
use Rattle.trellis.proofs.RunLaws.{label_under}
use Rattle.trellis.specs.Code.{isdb, state_at, label_at}
use Rattle.trellis.specs.Step.{upper, input, back}
use Rattle.trellis.specs.Isdb
use Rattle.path_greatest.specs.Paths.{Walk, sumℤ, Best, Any, This, Reading}
use Rattle.path_greatest.specs.Viterbi.{Z, sum, decision, inputs, origin}
use Rattle.path_greatest.proofs.Greatest.{Greatest, greatest, end, end_under, inputs_length, traced}
use Rattle.path_greatest.proofs.Decoded.{back_start, back_input}
use Rattle.path_greatest.proofs.Integers.{parts_of_lem, sum_val, le_val, same_val}
use Rattle.path_greatest.proofs.Starts.{the_reading}
use Rattle.best_grid.specs.Grid.{level, most}
use Rattle.best_grid.specs.Costs.{table_at, word_at, cheapest, ruled, begun, anywhere, paid}
use Rattle.best_grid.proofs.CostLaws.{tracks, said, ends}

-- of n steps the costs c are levels less the whole numbers g, which lie within the largest metric
pub record Costed (g : ℕ → ℕ → ℤ) (c : ℕ → ℕ → ℕ) (n : ℕ) : Type 0 where
  pub is : (t l : ℕ) → t < n → l < 4 → c t l + hi_z (g t l) ≡ level + lo_z (g t l)
  pub high : (t l : ℕ) → t < n → l < 4 → hi_z (g t l) ≤ most
  pub deep : (t l : ℕ) → t < n → l < 4 → lo_z (g t l) ≤ most

-- ---- the start
unfoldable pub given : ℕ → ℕ → Z
given s k = cond (eqb k s) (0, 0) (0, ruled)

abbrev pub even : ℕ → Z
even k = (0, 0)

given_here : (s k : ℕ) → k ≡ s → given s k ≡ (0, 0)
unfolding given
given_here s k e = rw e (go (eqb s s) (eqb_refl s))
  where
    go : (w : Bool) → T w → cond {A = Z} w (0, 0) (0, ruled) ≡ (0, 0)
    go true h = refl
    go false h = absurd h

given_cases : (s k : ℕ) → (k ≡ s) ⊎ (given s k ≡ (0, ruled))
unfolding given
given_cases s k = go (eqb k s) (eqb→eq k s)
  where
    go : (w : Bool) → (T w → k ≡ s) → (k ≡ s) ⊎ (cond {A = Z} w (0, 0) (0, ruled) ≡ (0, ruled))
    go true h = inl (h tt)
    go false h = inr refl

begun_is : (s k : ℕ) → k < 64 → get_or (begun s) k 0 + (given s k).0 ≡ (given s k).1
unfolding begun given
begun_is s k h = rw (get_d_upto (λ j. cond (eqb j s) 0 ruled) 0 64 k h) (go (eqb k s))
  where
    go : (w : Bool) → cond w 0 ruled + (cond {A = Z} w (0, 0) (0, ruled)).0 ≡ (cond {A = Z} w (0, 0) (0, ruled)).1
    go true = refl
    go false = refl

anywhere_is : (k : ℕ) → k < 64 → get_or anywhere k 0 + (even k).0 ≡ (even k).1
unfolding anywhere
anywhere_is k h = rw (get_d_upto {A = ℕ} (λ j. 0) 0 64 k h) refl

-- ---- what is traced
module _ (g : ℕ → ℕ → ℤ) (c : ℕ → ℕ → ℕ) (n : ℕ) (few : n ≤ Isdb.longest_frame) (costed : Costed g c n) where
  abbrev mz : ℕ → ℕ → Z
  mz t l = parts_of_lem (g t l)

  -- the words of n steps from the table d, and the end that they are traced from
  module _ (v : ℕ → Z) (d : List ℕ) (starts : (k : ℕ) → k < 64 → get_or d k 0 + (v k).0 ≡ (v k).1) (ws : List ℕ) (words : (t : ℕ) → t < n → get_or ws t 0 ≡ word_at d c t) where
    abbrev last : ℕ
    last = cheapest (table_at d c n) 63

    last_is : last ≡ end 32 Isdb.labels upper v mz n
    unfolding end
    last_is = ends v mz d c n starts costed.is 63 (omega arith)

    bits_said : (t k : ℕ) → t < n → k < 64 → get_or ws t 0 / 2 ^ k % 2 ≡ bit (decision 32 Isdb.labels upper v mz t k)
    bits_said t k h l = ap (λ (w : ℕ). w / 2 ^ k % 2) (words t h) ∙ said v mz d c n starts costed.is t k h l

    last_under : last < 64
    last_under = let a = end_under 32 Isdb.labels upper v mz n (omega arith) in let e = last_is in omega arith

    traced_is : upto (input 32 ws n last) n ≡ inputs 32 Isdb.labels upper v mz n last
    traced_is =
        let len = length_upto (input 32 ws n last) n in
        ext_get_or 0 (upto (input 32 ws n last) n) (inputs 32 Isdb.labels upper v mz n last) (len ∙ sym (inputs_length 32 Isdb.labels upper v mz n last))
        (λ k h. let i : k < n = omega arith in get_d_upto (input 32 ws n last) 0 n k i ∙ back_input 32 (omega arith) Isdb.labels upper v mz n ws bits_said last k last_under i)

    traced_greatest : Greatest 32 Isdb.labels upper v mz (λ z. Unit {0}) n (back 32 ws n last n) (upto (input 32 ws n last) n)
    traced_greatest =
        let a = greatest 32 Isdb.labels upper v mz n (omega arith) in
        let b = subst (λ (x : ℕ). Greatest 32 Isdb.labels upper v mz (λ z. Unit {0}) n (origin 32 Isdb.labels upper v mz n x) (inputs 32 Isdb.labels upper v mz n x)) (sym last_is) a in
        let e = back_start 32 (omega arith) Isdb.labels upper v mz n ws bits_said last last_under in
        subst (λ (x : List ℕ). Greatest 32 Isdb.labels upper v mz (λ z. Unit {0}) n (back 32 ws n last n) x) (sym traced_is)
        (subst (λ (x : ℕ). Greatest 32 Isdb.labels upper v mz (λ z. Unit {0}) n x (inputs 32 Isdb.labels upper v mz n last)) (sym e) b)

    -- its cost is that of its end in the table
    paid_is : (s : ℕ) (us : List ℕ) (k : ℕ) → k ≤ n → paid c s us k + (sum 32 Isdb.labels mz s us k).0 ≡ k * level + (sum 32 Isdb.labels mz s us k).1
    unfolding paid sum
    paid_is s us zero h = refl
    paid_is s us (suc k) h =
        let l = label_at 32 Isdb.labels s us k in
        let i = paid_is s us k (omega arith) in
        let e = costed.is k l h (label_under isdb (get_or us k 0) (state_at 32 s us k)) in
        omega arith

    pub traced_paid : get_or d (back 32 ws n last n) 0 + paid c (back 32 ws n last n) (upto (input 32 ws n last) n) n ≡ get_or (table_at d c n) last 0
    traced_paid =
        let o = origin 32 Isdb.labels upper v mz n last in
        let us = inputs 32 Isdb.labels upper v mz n last in
        let e = back_start 32 (omega arith) Isdb.labels upper v mz n ws bits_said last last_under in
        let tr = traced 32 Isdb.labels upper v mz n last last_under in
        let g0 = ap (λ (z : Z). z.0) tr.gains in
        let g1 = ap (λ (z : Z). z.1) tr.gains in
        let t = tracks v mz d c n starts costed.is n (omega arith) last last_under in
        let p = paid_is o us n (omega arith) in
        let b = starts o tr.path.walk.start in
        rw (e, traced_is) (omega arith)

  -- ---- a wrong start loses
  sum_high : (s : ℕ) (us : List ℕ) (k : ℕ) → k ≤ n → (sum 32 Isdb.labels mz s us k).0 ≤ most * k
  unfolding sum
  sum_high s us zero h = omega arith
  sum_high s us (suc k) h =
      let l = label_at 32 Isdb.labels s us k in
      let i = sum_high s us k (omega arith) in
      let j = costed.high k l h (label_under isdb (get_or us k 0) (state_at 32 s us k)) in
      omega arith

  sum_deep : (s : ℕ) (us : List ℕ) (k : ℕ) → k ≤ n → (sum 32 Isdb.labels mz s us k).1 ≤ most * k
  unfolding sum
  sum_deep s us zero h = omega arith
  sum_deep s us (suc k) h =
      let l = label_at 32 Isdb.labels s us k in
      let i = sum_deep s us k (omega arith) in
      let j = costed.deep k l h (label_under isdb (get_or us k 0) (state_at 32 s us k)) in
      omega arith

  zeros_walk : (s : ℕ) → s < 64 → Walk 32 n s (replicate n 0)
  zeros_walk s h = record { start = h; bits = λ k l. rw (get_or-replicate {A = ℕ} n k 0 0 l) (lit≤ tt) }

  begins_there : (s₀ s : ℕ) (us : List ℕ) → s₀ < 64 → Greatest 32 Isdb.labels upper (given s₀) mz (λ z. Unit {0}) n s us → s ≡ s₀
  begins_there s₀ s us hs w =
      ⊎_elim (λ e. e)
      (λ e.
      let vs = replicate n 0 in
      let a = w.most s₀ vs (zeros_walk s₀ hs) tt in
      let b0 : (given s₀ s).0 ≡ 0 = ap (λ (z : Z). z.0) e in
      let b1 : (given s₀ s).1 ≡ ruled = ap (λ (z : Z). z.1) e in
      let c0 : (given s₀ s₀).0 ≡ 0 = ap (λ (z : Z). z.0) (given_here s₀ s₀ refl) in
      let c1 : (given s₀ s₀).1 ≡ 0 = ap (λ (z : Z). z.1) (given_here s₀ s₀ refl) in
      let f = sum_high s us n (omega arith) in
      let h = sum_deep s₀ vs n (omega arith) in
      absurd (omega arith))
      (given_cases s₀ s)

  abbrev total : ℕ → List ℕ → ℤ
  total s us = sumℤ 32 Isdb.labels g s us n

  abbrev zsum : ℕ → List ℕ → Z
  zsum s us = sum 32 Isdb.labels mz s us n

  known_best : (s₀ s : ℕ) (us : List ℕ) → s₀ < 64 → Greatest 32 Isdb.labels upper (given s₀) mz (λ z. Unit {0}) n s us → Best 32 Isdb.labels upper (This s₀) Any g n s us
  known_best s₀ s us hs w =
      let here = begins_there s₀ s us hs w in
      let b0 : (given s₀ s).0 ≡ 0 = ap (λ (z : Z). z.0) (given_here s₀ s here) in
      let b1 : (given s₀ s).1 ≡ 0 = ap (λ (z : Z). z.1) (given_here s₀ s here) in
      record {
        path = w.path;
        begins = here;
        ends = tt;
        most = λ r vs p e z.
            let c0 : (given s₀ r).0 ≡ 0 = ap (λ (z : Z). z.0) (given_here s₀ r e) in
            let c1 : (given s₀ r).1 ≡ 0 = ap (λ (z : Z). z.1) (given_here s₀ r e) in
            let a = w.most r vs p.walk tt in
            le_val (total r vs) (total s us) (zsum r vs) (zsum s us) (sum_val 32 Isdb.labels g r vs n) (sum_val 32 Isdb.labels g s us n) (omega arith);
        first = λ r vs p e z q.
            let c0 : (given s₀ r).0 ≡ 0 = ap (λ (z : Z). z.0) (given_here s₀ r e) in
            let c1 : (given s₀ r).1 ≡ 0 = ap (λ (z : Z). z.1) (given_here s₀ r e) in
            let a = same_val (total r vs) (total s us) (zsum r vs) (zsum s us) (sum_val 32 Isdb.labels g r vs n) (sum_val 32 Isdb.labels g s us n) q in
            w.first r vs p.walk tt (omega arith);
      }

  any_best : (s : ℕ) (us : List ℕ) → Greatest 32 Isdb.labels upper even mz (λ z. Unit {0}) n s us → Best 32 Isdb.labels upper Any Any g n s us
  any_best s us w = record {
    path = w.path;
    begins = tt;
    ends = tt;
    most = λ r vs p e z.
        let a = w.most r vs p.walk tt in
        le_val (total r vs) (total s us) (zsum r vs) (zsum s us) (sum_val 32 Isdb.labels g r vs n) (sum_val 32 Isdb.labels g s us n) (omega arith);
    first = λ r vs p e z q.
        let a = same_val (total r vs) (total s us) (zsum r vs) (zsum s us) (sum_val 32 Isdb.labels g r vs n) (sum_val 32 Isdb.labels g s us n) q in
        w.first r vs p.walk tt (omega arith);
  }

  -- ---- the theorems
  pub known_found : (s₀ : ℕ) (ws : List ℕ) → s₀ < 64 → ((t : ℕ) → t < n → get_or ws t 0 ≡ word_at (begun s₀) c t)
      → Best 32 Isdb.labels upper (This s₀) Any g n (back 32 ws n (cheapest (table_at (begun s₀) c n) 63) n) (upto (input 32 ws n (cheapest (table_at (begun s₀) c n) 63)) n)
  known_found s₀ ws hs words =
      let e = cheapest (table_at (begun s₀) c n) 63 in
      known_best s₀ (back 32 ws n e n) (upto (input 32 ws n e) n) hs (traced_greatest (given s₀) (begun s₀) (begun_is s₀) ws words)

  pub any_found : (ws : List ℕ) → ((t : ℕ) → t < n → get_or ws t 0 ≡ word_at anywhere c t)
      → Best 32 Isdb.labels upper Any Any g n (back 32 ws n (cheapest (table_at anywhere c n) 63) n) (upto (input 32 ws n (cheapest (table_at anywhere c n) 63)) n)
  any_found ws words =
      let e = cheapest (table_at anywhere c n) 63 in
      any_best (back 32 ws n e n) (upto (input 32 ws n e) n) (traced_greatest even anywhere anywhere_is ws words)

  -- what they cost
  pub known_paid : (s₀ : ℕ) (ws : List ℕ) → ((t : ℕ) → t < n → get_or ws t 0 ≡ word_at (begun s₀) c t)
      → get_or (begun s₀) (back 32 ws n (cheapest (table_at (begun s₀) c n) 63) n) 0 + paid c (back 32 ws n (cheapest (table_at (begun s₀) c n) 63) n) (upto (input 32 ws n (cheapest (table_at (begun s₀) c n) 63)) n) n ≡ get_or (table_at (begun s₀) c n) (cheapest (table_at (begun s₀) c n) 63) 0
  known_paid s₀ ws words = traced_paid (given s₀) (begun s₀) (begun_is s₀) ws words

  pub any_paid : (ws : List ℕ) → ((t : ℕ) → t < n → get_or ws t 0 ≡ word_at anywhere c t)
      → get_or anywhere (back 32 ws n (cheapest (table_at anywhere c n) 63) n) 0 + paid c (back 32 ws n (cheapest (table_at anywhere c n) 63) n) (upto (input 32 ws n (cheapest (table_at anywhere c n) 63)) n) n ≡ get_or (table_at anywhere c n) (cheapest (table_at anywhere c n) 63) 0
  any_paid ws words = traced_paid even anywhere anywhere_is ws words

  pub known_reading : (s₀ : ℕ) (ws : List ℕ) → s₀ < 64 → ((t : ℕ) → t < n → get_or ws t 0 ≡ word_at (begun s₀) c t)
      → Reading 32 Isdb.labels upper (This s₀) g n (upto (input 32 ws n (cheapest (table_at (begun s₀) c n) 63)) n)
  known_reading s₀ ws hs words =
      let e = cheapest (table_at (begun s₀) c n) 63 in
      the_reading 32 Isdb.labels upper (This s₀) g n (back 32 ws n e n) (upto (input 32 ws n e) n) (known_found s₀ ws hs words)

  pub any_reading : (ws : List ℕ) → ((t : ℕ) → t < n → get_or ws t 0 ≡ word_at anywhere c t)
      → Reading 32 Isdb.labels upper Any g n (upto (input 32 ws n (cheapest (table_at anywhere c n) 63)) n)
  any_reading ws words =
      let e = cheapest (table_at anywhere c n) 63 in
      the_reading 32 Isdb.labels upper Any g n (back 32 ws n e n) (upto (input 32 ws n e) n) (any_found ws words)

-- ---- what the start tables rule out
pub begun_here : (s k : ℕ) → s < 64 → k ≡ s → get_or (begun s) k 0 ≡ 0
unfolding begun
begun_here s k h e = rw e (get_d_upto (λ j. cond (eqb j s) 0 ruled) 0 64 s h ∙ go (eqb s s) (eqb_refl s))
  where
    go : (w : Bool) → T w → cond w 0 ruled ≡ 0
    go true t = refl
    go false t = absurd t

pub begun_only : (s k : ℕ) → k < 64 → get_or (begun s) k 0 < ruled → k ≡ s
unfolding begun
begun_only s k h l = go (eqb k s) (eqb→eq k s) (rw (get_d_upto (λ j. cond (eqb j s) 0 ruled) 0 64 k h) at l)
  where
    go : (w : Bool) → (T w → k ≡ s) → cond w 0 ruled < ruled → k ≡ s
    go true f l = f tt
    go false f l = absurd (omega arith)

pub anywhere_zero : (k : ℕ) → get_or anywhere k 0 ≡ 0
unfolding anywhere
anywhere_zero k = ⊎_elim (λ (h : k < 64). get_d_upto {A = ℕ} (λ j. 0) 0 64 k h) (λ (h : 64 ≤ k). get_or-eq_default {A = ℕ} (upto (λ j. 0) 64) 0 {n = k} (rw (length_upto {A = ℕ} (λ j. 0) 64) h)) (lt_or_ge k 64)
