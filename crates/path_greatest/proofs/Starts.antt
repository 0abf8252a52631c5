-- The two starts, and the theorem on decoded bits in the reader's words.
use Rattle.std.specs.Prelude.{◌≡◌, ◌⊎◌, Bool, List, ℤ, eqb, get_or, replicate, Float}
use Rattle.std.proofs.Math.Path.{refl}
use Rattle.std.proofs.Common.{sym, ap, subst, ⊎_elim, eqb→eq, lit≤}
use Rattle.std.proofs.Math.Logic.{inl, inr}
use Rattle.std.proofs.Math.Bool.{true, false, cond}
use Prim.Native.Nat.{ℕ, zero, suc, ◌*◌, ◌≤◌, ◌<◌}
use native.Mathlib.Omega.{arith}
use Rattle.std.proofs.Math.Dec.{T, eqb_refl}
use Rattle.std.proofs.lemmas.List.{get_or-replicate}
use Rattle.std.specs.Float.{binary32}
use Rattle.std.specs.Float.Ieee.{fits, of_bits}
use Rattle.ieee.specs.Value.{hi, lo}
use Rattle.ieee.specs.Rounding.{pow2}
use Rattle.ieee.specs.Whole.{hi_z, lo_z}
use Rattle.ieee.specs.Whole.{hi_z, lo_z}
use Rattle.trellis.specs.Code.{state_at, label_at}
use Rattle.trellis.specs.Step.{Step, Tie, back}
use Rattle.path_greatest.specs.Paths.{bound, longest, Walk, Path, sumℤ, Best, Any, This, Reading}
use Rattle.path_greatest.specs.Viterbi.{Z, sum}
use Rattle.path_greatest.proofs.Greatest.{Greatest, one_first}
use Rattle.path_greatest.proofs.Exact.{Whole}
use Rattle.path_greatest.proofs.Tracks.{Adds}
use Rattle.path_greatest.proofs.Decoded.{Started, Did, Ended, decoded, decoded_to}
use Rattle.path_greatest.proofs.Integers.{parts_of_lem, sum_val, le_val, same_val, ≤ℤ-antisymm}
use Rattle.path_greatest.specs.Starts.{Given, Unknown, behind, behind_f, given, level}

-- ---- the two numbers as floats
pub none : Whole (of_bits binary32 0) 0 0
unfolding of_bits fits hi lo pow2
none = record { num = record { fin_x = tt; fits_x = tt }; hi_is = refl; lo_is = refl }

pub behind_is : Whole behind_f 0 behind
unfolding of_bits fits hi lo pow2
behind_is = record { num = record { fin_x = tt; fits_x = tt }; hi_is = refl; lo_is = refl }

pub given_started : (half s : ℕ) (pm : List Float) → Given half s pm → Started half pm (given s)
unfolding given
given_started half s pm g = record {
  count = g.count;
  whole = λ k l. rw (g.values k l) (a (eqb k s));
  high = λ k l. b (eqb k s);
  deep = λ k l. c (eqb k s);
}
  where
    a : (w : Bool) → Whole (cond w (of_bits binary32 0) behind_f) (cond {A = Z} w (0, 0) (0, behind)).0 (cond {A = Z} w (0, 0) (0, behind)).1
    a true = none
    a false = behind_is

    b : (w : Bool) → (cond {A = Z} w (0, 0) (0, behind)).0 ≤ 1000000
    b true = lit≤ tt
    b false = lit≤ tt

    c : (w : Bool) → (cond {A = Z} w (0, 0) (0, behind)).1 ≤ 1000000
    c true = lit≤ tt
    c false = lit≤ tt

pub unknown_started : (half : ℕ) (pm : List Float) → Unknown half pm → Started half pm level
unknown_started half pm g = record {
  count = g.count;
  whole = λ k l. rw (g.values k l) none;
  high = λ k l. lit≤ tt;
  deep = λ k l. lit≤ tt;
}

-- ---- a wrong start loses
module _ (half : ℕ) (out : ℕ → ℕ → ℕ) (labels : (u s : ℕ) → out u s < 4) (t : Tie) (m : ℕ → ℕ → ℤ) (n : ℕ) (small : (k c : ℕ) → k < n → c < 4 → (hi_z (m k c) ≤ bound) × (lo_z (m k c) ≤ bound)) where
  abbrev mz : ℕ → ℕ → Z
  mz k c = parts_of_lem (m k c)

  sum_high : (s : ℕ) (us : List ℕ) (k : ℕ) → k ≤ n → (sum half out mz s us k).0 ≤ bound * k
  unfolding sum
  sum_high s us zero h = omega arith
  sum_high s us (suc k) h =
      let c = label_at half out s us k in
      let i = sum_high s us k (omega arith) in
      let j = small k c h (labels (get_or us k 0) (state_at half s us k)) in
      omega arith

  sum_deep : (s : ℕ) (us : List ℕ) (k : ℕ) → k ≤ n → (sum half out mz s us k).1 ≤ bound * k
  unfolding sum
  sum_deep s us zero h = omega arith
  sum_deep s us (suc k) h =
      let c = label_at half out s us k in
      let i = sum_deep s us k (omega arith) in
      let j = small k c h (labels (get_or us k 0) (state_at half s us k)) in
      omega arith

  given_here : (s k : ℕ) → k ≡ s → given s k ≡ (0, 0)
  unfolding given
  given_here s k e = rw e (go (eqb s s) (eqb_refl s))
    where
      go : (w : Bool) → T w → cond {A = Z} w (0, 0) (0, behind) ≡ (0, 0)
      go true h = refl
      go false h = absurd h

  given_cases : (s k : ℕ) → (k ≡ s) ⊎ (given s k ≡ (0, behind))
  unfolding given
  given_cases s k = go (eqb k s) (eqb→eq k s)
    where
      go : (w : Bool) → (T w → k ≡ s) → (k ≡ s) ⊎ (cond {A = Z} w (0, 0) (0, behind) ≡ (0, behind))
      go true h = inl (h tt)
      go false h = inr refl

  zeros_walk : (s : ℕ) → s < 2 * half → Walk half n s (replicate n 0)
  zeros_walk s h = record { start = h; bits = λ k l. rw (get_or-replicate {A = ℕ} n k 0 0 l) (lit≤ tt) }

  -- the path vs from the given start keeps every path from another below it
  begins_there : (to : ℕ → Type 0) (s₀ s : ℕ) (us vs : List ℕ) → n ≤ longest → Walk half n s₀ vs → to (state_at half s₀ vs n) → Greatest half out t (given s₀) mz to n s us → s ≡ s₀
  begins_there to s₀ s us vs few w z g =
      ⊎_elim (λ e. e)
      (λ e.
      let a = g.most s₀ vs w z in
      let b0 : (given s₀ s).0 ≡ 0 = ap (λ (z : Z). z.0) e in
      let b1 : (given s₀ s).1 ≡ behind = ap (λ (z : Z). z.1) e in
      let c0 : (given s₀ s₀).0 ≡ 0 = ap (λ (z : Z). z.0) (given_here s₀ s₀ refl) in
      let c1 : (given s₀ s₀).1 ≡ 0 = ap (λ (z : Z). z.1) (given_here s₀ s₀ refl) in
      let d = sum_high s us n (omega arith) in
      let f = sum_deep s₀ vs n (omega arith) in
      absurd (omega arith))
      (given_cases s₀ s)

  given_best : (to : ℕ → Type 0) (s₀ s : ℕ) (us vs : List ℕ) → n ≤ longest → Walk half n s₀ vs → to (state_at half s₀ vs n) → Greatest half out t (given s₀) mz to n s us → Best half out t (This s₀) to m n s us
  given_best to s₀ s us vs few w z g =
      let here = begins_there to s₀ s us vs few w z g in
      let b0 : (given s₀ s).0 ≡ 0 = ap (λ (z : Z). z.0) (given_here s₀ s here) in
      let b1 : (given s₀ s).1 ≡ 0 = ap (λ (z : Z). z.1) (given_here s₀ s here) in
      record {
        path = g.path;
        begins = here;
        ends = g.ends;
        most = λ r vs p e z.
            let c0 : (given s₀ r).0 ≡ 0 = ap (λ (z : Z). z.0) (given_here s₀ r e) in
            let c1 : (given s₀ r).1 ≡ 0 = ap (λ (z : Z). z.1) (given_here s₀ r e) in
            let a = g.most r vs p.walk z in
            le_val (sumℤ half out m r vs n) (sumℤ half out m s us n) (sum half out mz r vs n) (sum half out mz s us n) (sum_val half out m r vs n) (sum_val half out m s us n) (omega arith);
        first = λ r vs p e z q.
            let c0 : (given s₀ r).0 ≡ 0 = ap (λ (z : Z). z.0) (given_here s₀ r e) in
            let c1 : (given s₀ r).1 ≡ 0 = ap (λ (z : Z). z.1) (given_here s₀ r e) in
            let a = same_val (sumℤ half out m r vs n) (sumℤ half out m s us n) (sum half out mz r vs n) (sum half out mz s us n) (sum_val half out m r vs n) (sum_val half out m s us n) q in
            g.first r vs p.walk z (omega arith);
      }

  level_best : (to : ℕ → Type 0) (s : ℕ) (us : List ℕ) → Greatest half out t level mz to n s us → Best half out t Any to m n s us
  level_best to s us g = record {
    path = g.path;
    begins = tt;
    ends = g.ends;
    most = λ r vs p e z.
        let a = g.most r vs p.walk z in
        le_val (sumℤ half out m r vs n) (sumℤ half out m s us n) (sum half out mz r vs n) (sum half out mz s us n) (sum_val half out m r vs n) (sum_val half out m s us n) (omega arith);
    first = λ r vs p e z q.
        let a = same_val (sumℤ half out m r vs n) (sumℤ half out m s us n) (sum half out mz r vs n) (sum half out mz s us n) (sum_val half out m r vs n) (sum_val half out m s us n) q in
        g.first r vs p.walk z (omega arith);
  }

-- ---- what the decoder gave out are the inputs of the first path of greatest sum
module _ (half : ℕ) (some : 0 < half) (out : ℕ → ℕ → ℕ) (labels : (u s : ℕ) → out u s < 4) (t : Tie) (steps : ℕ → Step) (m : ℕ → ℕ → ℤ) (n : ℕ) (few : n ≤ longest)
    (ads : (k : ℕ) → k < n → Adds (steps k) (λ c. parts_of_lem (m k c))) (pms : ℕ → List Float)
    (ws : List ℕ) (e : ℕ) (us : List ℕ) (did : Did half out t steps n pms ws e us) where
  small : (k c : ℕ) → k < n → c < 4 → (hi_z (m k c) ≤ bound) × (lo_z (m k c) ≤ bound)
  small k c h l = ((ads k h).high c l, (ads k h).deep c l)

  -- from the given start, traced from the best state
  pub best_given : (s₀ : ℕ) → Given half s₀ (pms 0) → Ended half t n pms e → Best half out t (This s₀) Any m n s₀ us
  best_given s₀ g en =
      let d = decoded half some out labels t (given s₀) (λ k c. parts_of_lem (m k c)) steps n few pms (given_started half s₀ (pms 0) g) ads ws e us did en in
      let b = given_best half out labels t m n small Any s₀ (back half ws n e n) us (replicate n 0) few (zeros_walk half out labels t m n small s₀ g.state) tt d in
      subst (λ (x : ℕ). Best half out t (This s₀) Any m n x us) b.begins b

  -- from any start, traced from the best state
  pub best_unknown : Unknown half (pms 0) → Ended half t n pms e → Best half out t Any Any m n (back half ws n e n) us
  best_unknown g en =
      let d = decoded half some out labels t level (λ k c. parts_of_lem (m k c)) steps n few pms (unknown_started half (pms 0) g) ads ws e us did en in
      level_best half out labels t m n small Any (back half ws n e n) us d

  -- from the given start to the given end, where any path leads there
  pub best_between : (s₀ : ℕ) (vs : List ℕ) → Given half s₀ (pms 0) → e < 2 * half → Path half n s₀ vs → state_at half s₀ vs n ≡ e → Best half out t (This s₀) (This e) m n s₀ us
  best_between s₀ vs g l p z =
      let d = decoded_to half some out labels t (given s₀) (λ k c. parts_of_lem (m k c)) steps n few pms (given_started half s₀ (pms 0) g) ads ws e us did l in
      let b = given_best half out labels t m n small (This e) s₀ (back half ws n e n) us vs few p.walk z d in
      subst (λ (x : ℕ). Best half out t (This s₀) (This e) m n x us) b.begins b

-- ---- there is one such path
pub one_best : (half : ℕ) (out : ℕ → ℕ → ℕ) (t : Tie) (from to : ℕ → Type 0) (m : ℕ → ℕ → ℤ) (n s : ℕ) (us : List ℕ) (r : ℕ) (vs : List ℕ) → Best half out t from to m n s us → Best half out t from to m n r vs → (s ≡ r) × (us ≡ vs)
one_best half out t from to m n s us r vs g h =
    let a = g.most r vs h.path h.begins h.ends in
    let b = h.most s us g.path g.begins g.ends in
    let e : sumℤ half out m r vs n ≡ sumℤ half out m s us n = ≤ℤ-antisymm a b in
    one_first half t s us r vs n g.path h.path (g.first r vs h.path h.begins h.ends e) (h.first s us g.path g.begins g.ends (sym e))

pub the_reading : (half : ℕ) (out : ℕ → ℕ → ℕ) (t : Tie) (from : ℕ → Type 0) (m : ℕ → ℕ → ℤ) (n s : ℕ) (us : List ℕ) → Best half out t from Any m n s us → Reading half out t from m n us
the_reading half out t from m n s us g = record { start = s; best = g; only = λ r vs h. one_best half out t from Any m n r vs s us h g }
