-- What a reading of a stretch asks, of the values that are made here.
use mathlib.Core.Path.{◌≡◌, refl, sym, ap, ◌∙◌, subst}
use mathlib.Core.Bool.{true}
use mathlib.Core.List.{List, [], ◌∷◌}
use Prim.Native.Nat.{ℕ, zero, suc, ◌+◌, ◌*◌, ◌/◌, ◌≤◌, ◌<◌}
use native.Mathlib.Omega.{arith}
use native.Mathlib.Nat.{zero-mul, ne_of_lt, le_refl}
use borrow.Author.Count.{below_more}
use lib.Dec.{T, leb, le→leb}
use lib.IntN.{pos}
use lib.ListN.{length, get_or, take, set}
use lib.Seq.{get_or-take, get_or-set_same, get_or-set_other, length-take-le}
use lib.Ieee.{Float, nan, binary32, of_int, in_float}
use Rattle.ieee.specs.Value.{lo}
use Rattle.ieee.specs.Rounding.{pow2}
use Rattle.ieee.proofs.Whole.{of_int_on}
use Rattle.best_grid.specs.Grid.{below}
use Rattle.best_grid.proofs.GridLaws.{none_capped}
use Rattle.best_grid.specs.Sides.{Upright}
use Rattle.best_content.specs.Slots.{Marked, Lent}

-- a whole number has no part below 0
fits : (n : ℕ) → n < 256 → T (in_float binary32 (pos n))
unfolding in_float
fits n h = le→leb n 16777216 (omega arith)

pub whole_up : (n : ℕ) → n < 256 → below (of_int binary32 (pos n)) ≡ 0
unfolding below
whole_up n h = none_capped (lo binary32 (of_int binary32 (pos n))) ((of_int_on binary32 (pos n) (fits n h)).lo_is ∙ zero-mul (pow2 149))

-- the first k values
abbrev pub Ups : List Float → List ℕ → ℕ → Type 0
Ups xs sides k = (i : ℕ) → i < k → leb 16 (get_or sides (i / 4) 0) ≡ true → below (get_or xs i nan) ≡ 0

pub ups_more : (xs : List Float) (sides : List ℕ) (k : ℕ) (x : Float) → k < length xs → (leb 16 (get_or sides (k / 4) 0) ≡ true → below x ≡ 0) → Ups xs sides k → Ups (set xs k x) sides (k + 1)
ups_more xs sides k x l h u =
    below_more (λ i. leb 16 (get_or sides (i / 4) 0) ≡ true → below (get_or (set xs k x) i nan) ≡ 0) k
    (λ i hi t. ap below (get_or-set_other xs k i x nan (ne_of_lt hi)) ∙ u i hi t)
    (λ t. ap below (get_or-set_same xs k x nan l) ∙ h t)

pub upright : (xs : List Float) (sides : List ℕ) → Ups xs sides 40 → Upright xs sides 10
upright xs sides u t zero h l w = u (4 * t) (omega arith) (subst (λ (j : ℕ). leb 16 (get_or sides j 0) ≡ true) (omega arith) w)
upright xs sides u t (suc zero) h l w = u (4 * t + 1) (omega arith) (subst (λ (j : ℕ). leb 16 (get_or sides j 0) ≡ true) (omega arith) w)
upright xs sides u t (suc (suc zero)) h l w = u (4 * t + 2) (omega arith) (subst (λ (j : ℕ). leb 16 (get_or sides j 0) ≡ true) (omega arith) w)
upright xs sides u t (suc (suc (suc zero))) h l w = u (4 * t + 3) (omega arith) (subst (λ (j : ℕ). leb 16 (get_or sides j 0) ≡ true) (omega arith) w)
upright xs sides u t (suc (suc (suc (suc i)))) h l w = absurd (omega arith)

-- of the first n steps
front : (xs : List Float) (sides : List ℕ) (n : ℕ) → n ≤ 10 → Upright xs sides 10 → Upright (take (4 * n) xs) sides n
front xs sides n few u t zero h l w = ap below (get_or-take (4 * n) xs (4 * t) nan (omega arith)) ∙ u t 0 (omega arith) (omega arith) w
front xs sides n few u t (suc zero) h l w = ap below (get_or-take (4 * n) xs (4 * t + 1) nan (omega arith)) ∙ u t 1 (omega arith) (omega arith) w
front xs sides n few u t (suc (suc zero)) h l w = ap below (get_or-take (4 * n) xs (4 * t + 2) nan (omega arith)) ∙ u t 2 (omega arith) (omega arith) w
front xs sides n few u t (suc (suc (suc zero))) h l w = ap below (get_or-take (4 * n) xs (4 * t + 3) nan (omega arith)) ∙ u t 3 (omega arith) (omega arith) w
front xs sides n few u t (suc (suc (suc (suc i)))) h l w = absurd (omega arith)

-- three slots
marked : (a b n : ℕ) → 0 < a → a < b → b < n → Marked (0 ∷ a ∷ b ∷ n ∷ []) 3 n
marked a b n ha hb hn =
    let u0 : 0 ≤ n = omega arith in
    let u1 : a ≤ n = omega arith in
    let u2 : b ≤ n = omega arith in
    record { count = le_refl 4; first = refl; rising = rising; under = under u0 u1 u2; last = refl }
  where
    rising : (k : ℕ) → k < 3 → get_or (0 ∷ a ∷ b ∷ n ∷ []) k 0 < get_or (0 ∷ a ∷ b ∷ n ∷ []) (k + 1) 0
    rising zero h = ha
    rising (suc zero) h = hb
    rising (suc (suc zero)) h = hn
    rising (suc (suc (suc k))) h = absurd (omega arith)

    under : 0 ≤ n → a ≤ n → b ≤ n → (k : ℕ) → k ≤ 3 → get_or (0 ∷ a ∷ b ∷ n ∷ []) k 0 ≤ n
    under z u v zero h = z
    under z u v (suc zero) h = u
    under z u v (suc (suc zero)) h = v
    under z u v (suc (suc (suc zero))) h = le_refl n
    under z u v (suc (suc (suc (suc k)))) h = absurd (omega arith)

pub lent : (xs : List Float) (sides tables decisions bits uncoded leads : List ℕ) (a b n : ℕ) → n ≤ 10 → 0 < a → a < b → b < n → length xs ≡ 40 → length sides ≡ 10 → length tables ≡ 192 → length decisions ≡ 10
    → length bits ≡ n → length uncoded ≡ n → length leads ≡ 3 → Upright xs sides 10 → Lent (take (4 * n) xs) sides (0 ∷ a ∷ b ∷ n ∷ []) tables decisions bits uncoded leads
lent xs sides tables decisions bits uncoded leads a b n few ha hb hn lx ls lt ld lb lu ll u =
    let l : length (take (4 * n) xs) ≡ 4 * n = length-take-le (4 * n) xs (omega arith) in
    let e : length (take (4 * n) xs) / 4 ≡ n = omega arith in
    record {
      marked = rw (ll, e) (marked a b n ha hb hn);
      few = omega arith;
      sided = omega arith;
      kept = omega arith;
      words = omega arith;
      read = omega arith;
      beside = omega arith;
      upright = subst (λ (m : ℕ). Upright (take (4 * n) xs) sides m) (sym e) (front xs sides n few u);
    }
