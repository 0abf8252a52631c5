-- The short rounding: one sum and one shift give what `closest` says. Of a zero the pattern is 0.
use mathlib.Core.Path.{◌≡◌, refl, sym, ap, ◌∙◌, subst}
use mathlib.Core.Bool.{Bool, true, false, not, cond, ◌||◌, beq, true≢false}
use Prim.Native.Nat.{ℕ, ◌+◌, ◌-◌, ◌*◌, ◌/◌, ◌%◌, ◌^◌, ◌≤◌, ◌<◌}
use native.Mathlib.Nat.{zero-add, zero-mul, zero-div, mul-one}
use native.Mathlib.Omega.{arith}
use borrow.Author.Tests.{ltb-true, ltb-false}
use lib.Dec.{T, ltb, eqb, eqb→eq, lit<}
use lib.Ieee.{Float, nan, inf, fin, binary32, binary64, up, down, size, span, climb, eq, fits, odd, of_fields, of_bits, to_bits, nan_bits}
use lib.Ieee.Fits.{and_l}
use lib.Ieee.Nearest.{closest}
use Rattle.ieee.specs.Conversion.{rounded}
use Rattle.ieee_cast.specs.Narrowed.{Narrowed}
use Rattle.ieee_cast.specs.Soft.{soft_of}
use Rattle.ieee_cast.specs.ShiftLaws.{closest_up, closest_down}
use Rattle.ieee_cast.specs.NarrowLaws.{tiny, normal}
use Rattle.ieee_cast.specs.SignLaws.{pattern_ok}
use Rattle.isdbs_metrics.specs.Reading.{absolute}
use Rattle.decode_soft.specs.Range.{Between}
use Rattle.decode_soft.proofs.Bits.{unsigned_is}

-- ---- q over 2 ^ 29: the sum carries where twice the rest and the last digit kept are above 2 ^ 29
carries : (q k r : ℕ) → q ≡ k * 536870912 + r → r < 536870912 → 536870912 < 2 * r + k % 2 → (q + 268435455 + k % 2) / 536870912 ≡ k + 1
carries q k r e l h = let t : k % 2 < 2 = omega arith in omega arith

stays : (q k r : ℕ) → q ≡ k * 536870912 + r → r < 536870912 → 2 * r + k % 2 ≤ 536870912 → (q + 268435455 + k % 2) / 536870912 ≡ k
stays q k r e l h = let t : k % 2 < 2 = omega arith in omega arith

sum_closest : (q : ℕ) → (q + 268435455 + q / 536870912 % 2) / 536870912 ≡ closest q (2 ^ 29)
sum_closest q = go (ltb 536870912 (2 * (q % 536870912) + q / 536870912 % 2)) refl
  where
    parts : q ≡ q / 536870912 * 536870912 + q % 536870912
    parts = omega arith

    less : q % 536870912 < 536870912
    less = omega arith

    go : (t : Bool) → ltb 536870912 (2 * (q % 536870912) + q / 536870912 % 2) ≡ t → (q + 268435455 + q / 536870912 % 2) / 536870912 ≡ closest q (2 ^ 29)
    go true e = let h = ltb-true 536870912 (2 * (q % 536870912) + q / 536870912 % 2) e in carries q (q / 536870912) (q % 536870912) parts less h ∙ closest_up q (2 ^ 29) 536870912 refl h
    go false e = let h = ltb-false 536870912 (2 * (q % 536870912) + q / 536870912 % 2) e in stays q (q / 536870912) (q % 536870912) parts less h ∙ closest_down q (2 ^ 29) 536870912 refl h

-- the exponent's difference is an even multiple of 2 ^ 29
same_digit : (b : ℕ) → 4039728865751334912 ≤ b → b / 536870912 % 2 ≡ (b - 4035225266123964416) / 536870912 % 2
same_digit b h =
    let k = (b - 4035225266123964416) / 536870912 in
    let e : b / 536870912 ≡ k + 7516192768 = omega arith in
    ap (λ (n : ℕ). n % 2) e ∙ even k
  where
    even : (k : ℕ) → (k + 7516192768) % 2 ≡ k % 2
    even k = omega arith

pub near_is : (b s : ℕ) → Between b → s ≡ b - 4035225266123964416 + 268435455 + b / 536870912 % 2 → Narrowed b (s / 536870912)
near_is b s h e =
    let q = b - 4035225266123964416 in
    let l = h.1 in
    subst (λ (r : ℕ). Narrowed b r)
    (sym (ap (λ (n : ℕ). n / 536870912) e ∙ ap (λ (n : ℕ). (q + 268435455 + n) / 536870912) (same_digit b h.0) ∙ sum_closest q))
    (normal b h.0 (omega arith))

-- ---- what equals zero has the pattern 0 without the sign
clear : (s : Bool) (n : ℕ) → n ≡ 0 → (cond s 9223372036854775808 0 + (size n - 53) * 4503599627370496 + n / 2 ^ (size n - 53)) % 9223372036854775808 ≡ 0
unfolding size span climb
clear true n e = ap (λ (k : ℕ). (9223372036854775808 + (size k - 53) * 4503599627370496 + k / 2 ^ (size k - 53)) % 9223372036854775808) e
clear false n e = ap (λ (k : ℕ). (0 + (size k - 53) * 4503599627370496 + k / 2 ^ (size k - 53)) % 9223372036854775808) e

pub zero_bits : (x : Float) → eq x (of_bits binary64 0) ≡ true → to_bits binary64 x % 9223372036854775808 ≡ 0
unfolding eq of_bits of_fields odd to_bits
zero_bits nan e = absurd (true≢false (sym e))
zero_bits (inf s) e = absurd (true≢false (sym e))
zero_bits (fin s m x) e =
    let z : m * up x * 1 ≡ 0 * 1 * down x = eqb→eq (m * up x * 1) (0 * 1 * down x) (and_l (eqb (m * up x * 1) (0 * 1 * down x)) (beq s false || eqb (m * up x * 1) 0) (subst T (sym e) tt)) in
    let y : m * up x ≡ 0 = sym (mul-one (m * up x)) ∙ z ∙ zero-mul (down x) in
    clear s (m * up x * 2 ^ 1074 / down x) (ap (λ (k : ℕ). k * 2 ^ 1074 / down x) y ∙ ap (λ (k : ℕ). k / down x) (zero-mul (2 ^ 1074)) ∙ zero-div (down x))
