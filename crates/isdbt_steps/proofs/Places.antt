-- From one step to the next: the place of its first mother bit within its period, and how many periods lie before it.
use mathlib.Core.Path.{◌≡◌, refl, ◌∙◌, ap}
use mathlib.Core.Bool.{Bool, true, false}
use Prim.Native.Nat.{ℕ, zero, suc, ◌+◌, ◌*◌, ◌/◌, ◌%◌, ◌<◌, ◌≤◌}
use native.Mathlib.Nat.{mul-suc, mul-mod_right}
use native.Mathlib.Numerals.{add-one}
use native.Mathlib.Omega.{arith}
use lib.Dec.{eqb}
use borrow.Author.Tests.{eqb-true, eqb-false}
use Rattle.isdbt_steps.specs.Soft.{next_of, standing_at}

-- where the period goes on
pub record Within (p k : ℕ) : Type 0 where
  pub same : 2 * (k + 1) / (2 * p) ≡ 2 * k / (2 * p)
  pub next : 2 * (k + 1) % (2 * p) ≡ 2 * k % (2 * p) + 2

pub within : (p k : ℕ) → 1 ≤ p → p ≤ 7 → (2 * k % (2 * p) + 2 ≡ 2 * p → ⊥) → Within p k
within zero k a b e = record { same = omega arith; next = omega arith }
within (suc zero) k a b e = record { same = omega arith; next = omega arith }
within (suc (suc zero)) k a b e = record { same = omega arith; next = omega arith }
within (suc (suc (suc zero))) k a b e = record { same = omega arith; next = omega arith }
within (suc (suc (suc (suc zero)))) k a b e = record { same = omega arith; next = omega arith }
within (suc (suc (suc (suc (suc zero))))) k a b e = record { same = omega arith; next = omega arith }
within (suc (suc (suc (suc (suc (suc zero)))))) k a b e = record { same = omega arith; next = omega arith }
within (suc (suc (suc (suc (suc (suc (suc zero))))))) k a b e = record { same = omega arith; next = omega arith }
within (suc (suc (suc (suc (suc (suc (suc (suc p)))))))) k a b e = record { same = omega arith; next = omega arith }

-- where the next one begins
pub record Turned (p k : ℕ) : Type 0 where
  pub more : 2 * (k + 1) / (2 * p) ≡ 2 * k / (2 * p) + 1
  pub first : 2 * (k + 1) % (2 * p) ≡ 0

pub turned : (p k : ℕ) → 1 ≤ p → p ≤ 7 → 2 * k % (2 * p) + 2 ≡ 2 * p → Turned p k
turned zero k a b e = record { more = omega arith; first = omega arith }
turned (suc zero) k a b e =
    let z : 2 * (k + 1) ≡ 2 * (2 * k / 2 + 1) = omega arith in
    record { more = omega (arith, z); first = ap (λ (x : ℕ). x % 2) z ∙ mul-mod_right 2 (2 * k / 2 + 1) }
turned (suc (suc zero)) k a b e =
    let z : 2 * (k + 1) ≡ 4 * (2 * k / 4 + 1) = omega arith in
    record { more = omega (arith, z); first = ap (λ (x : ℕ). x % 4) z ∙ mul-mod_right 4 (2 * k / 4 + 1) }
turned (suc (suc (suc zero))) k a b e =
    let z : 2 * (k + 1) ≡ 6 * (2 * k / 6 + 1) = omega arith in
    record { more = omega (arith, z); first = ap (λ (x : ℕ). x % 6) z ∙ mul-mod_right 6 (2 * k / 6 + 1) }
turned (suc (suc (suc (suc zero)))) k a b e =
    let z : 2 * (k + 1) ≡ 8 * (2 * k / 8 + 1) = omega arith in
    record { more = omega (arith, z); first = ap (λ (x : ℕ). x % 8) z ∙ mul-mod_right 8 (2 * k / 8 + 1) }
turned (suc (suc (suc (suc (suc zero))))) k a b e =
    let z : 2 * (k + 1) ≡ 10 * (2 * k / 10 + 1) = omega arith in
    record { more = omega (arith, z); first = ap (λ (x : ℕ). x % 10) z ∙ mul-mod_right 10 (2 * k / 10 + 1) }
turned (suc (suc (suc (suc (suc (suc zero)))))) k a b e =
    let z : 2 * (k + 1) ≡ 12 * (2 * k / 12 + 1) = omega arith in
    record { more = omega (arith, z); first = ap (λ (x : ℕ). x % 12) z ∙ mul-mod_right 12 (2 * k / 12 + 1) }
turned (suc (suc (suc (suc (suc (suc (suc zero))))))) k a b e =
    let z : 2 * (k + 1) ≡ 14 * (2 * k / 14 + 1) = omega arith in
    record { more = omega (arith, z); first = ap (λ (x : ℕ). x % 14) z ∙ mul-mod_right 14 (2 * k / 14 + 1) }
turned (suc (suc (suc (suc (suc (suc (suc (suc p)))))))) k a b e = record { more = omega arith; first = omega arith }

-- a step's second mother bit lies in the period of its first
pub record Second (p k : ℕ) : Type 0 where
  pub same : (2 * k + 1) / (2 * p) ≡ 2 * k / (2 * p)
  pub next : (2 * k + 1) % (2 * p) ≡ 2 * k % (2 * p) + 1
  pub below : 2 * k % (2 * p) + 1 < 2 * p

pub second : (p k : ℕ) → 1 ≤ p → p ≤ 7 → Second p k
second zero k a b = record { same = omega arith; next = omega arith; below = omega arith }
second (suc zero) k a b = record { same = omega arith; next = omega arith; below = omega arith }
second (suc (suc zero)) k a b = record { same = omega arith; next = omega arith; below = omega arith }
second (suc (suc (suc zero))) k a b = record { same = omega arith; next = omega arith; below = omega arith }
second (suc (suc (suc (suc zero)))) k a b = record { same = omega arith; next = omega arith; below = omega arith }
second (suc (suc (suc (suc (suc zero))))) k a b = record { same = omega arith; next = omega arith; below = omega arith }
second (suc (suc (suc (suc (suc (suc zero)))))) k a b = record { same = omega arith; next = omega arith; below = omega arith }
second (suc (suc (suc (suc (suc (suc (suc zero))))))) k a b = record { same = omega arith; next = omega arith; below = omega arith }
second (suc (suc (suc (suc (suc (suc (suc (suc p)))))))) k a b = record { same = omega arith; next = omega arith; below = omega arith }

one_more : (n q : ℕ) → n * (q + 1) ≡ n * q + n
one_more n q = rw (add-one q) (mul-suc n q)

-- the next step stands where `next_of` says
pub next_standing : (p n k : ℕ) → 1 ≤ p → p ≤ 7 → next_of (standing_at p n k) (2 * p) n ≡ standing_at p n (k + 1)
next_standing p n k a b = go (eqb (2 * k % (2 * p) + 2) (2 * p)) refl
  where
    go : (t : Bool) → eqb (2 * k % (2 * p) + 2) (2 * p) ≡ t → next_of (standing_at p n k) (2 * p) n ≡ standing_at p n (k + 1)
    go true e = let w = turned p k a b (eqb-true _ _ e) in rw (e, w.more, w.first, one_more n (2 * k / (2 * p))) refl
    go false e = let w = within p k a b (eqb-false _ _ e) in rw (e, w.same, w.next) refl
