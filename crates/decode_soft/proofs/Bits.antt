-- The pattern of an f64 without its sign.
use mathlib.Core.Path.{◌≡◌, refl, sym, ap, ◌∙◌, subst}
use mathlib.Core.Bool.{Bool, true, false, not, cond}
use Prim.Native.Nat.{ℕ, zero, suc, ◌+◌, ◌/◌, ◌%◌, ◌<◌}
use native.Mathlib.Nat.{mod-lt}
use native.Mathlib.Omega.{arith}
use borrow.Author.Tests.{lt-leb}
use lib.Dec.{T, eqb, leb, lit≤}
use lib.Ieee.{Float, nan, inf, fin, Format, binary64, prec, low, ones, hid, fits, is_nan, odd, of_fields, of_bits, to_bits, nan_bits}
use lib.Ieee.Bits.{of_bits-to_bits, nan_bits_is}
use Rattle.isdbs_metrics.specs.Reading.{absolute}

-- ---- without the sign's bit the value is the magnitude
odd_abs : (p : ℕ) (s : Bool) (m x l : ℕ) → odd p false m x l ≡ absolute (odd p s m x l)
unfolding odd
odd_abs p s zero x l = refl
odd_abs p s (suc m) x l = refl

either : (b : Bool) (x y u v : Float) → u ≡ absolute x → v ≡ absolute y → cond b u v ≡ absolute (cond b x y)
either true x y u v p q = p
either false x y u v p q = q

fields_abs : (f : Format) (s : Bool) (x t : ℕ) → of_fields f false x t ≡ absolute (of_fields f s x t)
unfolding of_fields
fields_abs f s zero t = odd_abs (prec f) s t 0 (low f)
fields_abs f s (suc x) t =
    either (eqb (suc x) (ones f)) (cond (eqb t 0) (inf s) nan) (odd (prec f) s (hid f + t) x (low f)) (cond (eqb t 0) (inf false) nan) (odd (prec f) false (hid f + t) x (low f))
    (either (eqb t 0) (inf s) nan (inf false) nan refl refl) (odd_abs (prec f) s (hid f + t) x (low f))

bits_abs : (b : ℕ) → of_bits binary64 (b % 9223372036854775808) ≡ absolute (of_bits binary64 b)
unfolding of_bits
bits_abs b =
    let l : b % 9223372036854775808 < 9223372036854775808 = mod-lt b (lit≤ tt) in
    let s : leb 9223372036854775808 (b % 9223372036854775808) ≡ false = lt-leb 9223372036854775808 (b % 9223372036854775808) l in
    let x : b % 9223372036854775808 % 9223372036854775808 / 4503599627370496 ≡ b % 9223372036854775808 / 4503599627370496 = omega arith in
    let t : b % 9223372036854775808 % 4503599627370496 ≡ b % 4503599627370496 = omega arith in
    ap (λ (q : Bool). of_fields binary64 q (b % 9223372036854775808 % 9223372036854775808 / 4503599627370496) (b % 9223372036854775808 % 4503599627370496)) s
    ∙ ap (λ (n : ℕ). of_fields binary64 false n (b % 9223372036854775808 % 4503599627370496)) x
    ∙ ap (λ (n : ℕ). of_fields binary64 false (b % 9223372036854775808 / 4503599627370496) n) t
    ∙ fields_abs binary64 (leb 9223372036854775808 b) (b % 9223372036854775808 / 4503599627370496) (b % 4503599627370496)

pub unsigned_is : (x : Float) → T (fits binary64 x) → of_bits binary64 (to_bits binary64 x % 9223372036854775808) ≡ absolute x
unsigned_is x t = bits_abs (to_bits binary64 x) ∙ ap absolute (of_bits-to_bits binary64 x t)

-- ---- the magnitude of a number is one
abs_number : (x : Float) → T (not (is_nan x)) → T (not (is_nan (absolute x)))
unfolding is_nan
abs_number nan n = n
abs_number (inf s) n = tt
abs_number (fin s m e) n = tt

pub unsigned_number : (x : Float) → T (fits binary64 x) → T (not (is_nan x)) → T (not (nan_bits binary64 (to_bits binary64 x % 9223372036854775808)))
unsigned_number x t n = subst (λ (b : Bool). T (not b)) (sym (nan_bits_is binary64 (to_bits binary64 x % 9223372036854775808) ∙ ap is_nan (unsigned_is x t))) (abs_number x n)
