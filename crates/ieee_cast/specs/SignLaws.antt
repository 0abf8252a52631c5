-- The sign's bit moved from an f64's pattern to an f32's, and which patterns are no NaN's.
use Rattle.std.specs.Prelude.{◌≡◌, refl, Bool, true, false, not, cond, ℕ, zero, suc, ◌+◌, ◌*◌, ◌/◌, ◌%◌, ◌≤◌, ◌<◌, T, ltb, Float}
use Rattle.std.proofs.Common.{sym, ap, ◌∙◌, subst, arith, ltb→lt, nltb→le}
use Rattle.std.proofs.Math.Dec.{not_T}
use Rattle.std.specs.Float.{binary32, binary64}
use Rattle.std.specs.Float.Ieee.{fits, is_nan, of_bits, to_bits, nan_bits}
use Rattle.std.specs.Float.Ieee.Bits.{of_bits-to_bits, to_bits-lt, nan_bits_is, nan_bits_above}
use Rattle.ieee.specs.Conversion.{rounded}
use Rattle.ieee_cast.specs.Narrowed.{Narrowed}

-- an f64's pattern without the sign is the infinity's at most
pub at_most_inf : (x : Float) → T (fits binary64 x) → T (not (is_nan x)) → to_bits binary64 x % 9223372036854775808 ≤ 9218868437227405312
at_most_inf x t n =
    nltb→le 9218868437227405312 (to_bits binary64 x % 9223372036854775808)
    (subst (λ (b : Bool). T (not b)) (sym (nan_bits_is binary64 (to_bits binary64 x) ∙ ap is_nan (of_bits-to_bits binary64 x t)) ∙ nan_bits_above binary64 (to_bits binary64 x)) n)

pub pattern_ok : (b r : ℕ) → r ≤ 2139095040 → T (not (nan_bits binary32 (b * 2147483648 + r)))
pattern_ok b r h =
    subst (λ (t : Bool). T (not t)) (sym (nan_bits_above binary32 (b * 2147483648 + r)))
    (not_T (ltb 2139095040 ((b * 2147483648 + r) % 2147483648)) (λ (t : T (ltb 2139095040 ((b * 2147483648 + r) % 2147483648))). clash b r h (ltb→lt 2139095040 ((b * 2147483648 + r) % 2147483648) t)))
  where
    clash : (b r : ℕ) → r ≤ 2139095040 → 2139095040 < (b * 2147483648 + r) % 2147483648 → ⊥
    clash b r h k = omega arith

-- ---- the sign
record Sign (b : ℕ) : Type 0 where
  s : Bool
  here : b / 9223372036854775808 * 2147483648 ≡ cond s 2147483648 0
  there : cond s 9223372036854775808 0 + b % 9223372036854775808 ≡ b

sign : (b : ℕ) → b < 18446744073709551616 → Sign b
sign b h = go (b / 9223372036854775808) refl
  where
    go : (x : ℕ) → b / 9223372036854775808 ≡ x → Sign b
    go zero e = record { s = false; here = omega arith; there = omega arith }
    go (suc zero) e = record { s = true; here = omega arith; there = omega arith }
    go (suc (suc x)) e = absurd (omega arith)

pub sign_lt : (x : Float) → T (fits binary64 x) → to_bits binary64 x / 9223372036854775808 < 2
sign_lt x t = let h = to_bits-lt binary64 x t in omega arith

pub whole : (x : Float) (r : ℕ) → T (fits binary64 x) → Narrowed (to_bits binary64 x % 9223372036854775808) r → of_bits binary32 (to_bits binary64 x / 9223372036854775808 * 2147483648 + r) ≡ rounded binary32 x
whole x r t n =
    let g = sign (to_bits binary64 x) (to_bits-lt binary64 x t) in
    ap (λ (b : ℕ). of_bits binary32 (b + r)) g.here
    ∙ n.nearest g.s
    ∙ ap (λ (b : ℕ). rounded binary32 (of_bits binary64 b)) g.there
    ∙ ap (λ (y : Float). rounded binary32 y) (of_bits-to_bits binary64 x t)
