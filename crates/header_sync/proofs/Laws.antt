-- Laws of tests and of counts that the proofs share.
use mathlib.Core.Path.{◌≡◌, refl, sym, ◌∙◌}
use mathlib.Core.Bool.{Bool, true, false}
use Prim.Native.Nat.{ℕ, ◌*◌, ◌<◌, ◌≤◌}
use native.Mathlib.Nat.{mul-le-mul}
use lib.Dec.{ltb}
use borrow.Author.Tests.{lt-ltb, le-ltb, ltb-true, ltb-false}

-- two tests that hold together
pub same_test : (a b x y : ℕ) → (a < b → x < y) → (b ≤ a → y ≤ x) → ltb a b ≡ ltb x y
same_test a b x y h k = by (ltb a b) refl
  where
    by : (t : Bool) → ltb a b ≡ t → ltb a b ≡ ltb x y
    by true e = e ∙ sym (lt-ltb x y (h (ltb-true a b e)))
    by false e = e ∙ sym (le-ltb x y (k (ltb-false a b e)))

-- the product of two scores over 20 symbols, each held with 20 more
pub product_small : (a b : ℕ) → a ≤ 40 → b ≤ 40 → a * b ≤ 1600
product_small a b h k = mul-le-mul {n₁ = a} {m₁ = b} {n₂ = 40} {m₂ = 40} h k

-- the square of how far a sum is from 0
pub square_small : (a : ℕ) → a ≤ 40 → a * a ≤ 1600
square_small a h = product_small a a h h
