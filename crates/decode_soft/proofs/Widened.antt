-- The f32's normal numbers have the same digits in f64: 29 zeros more, and an exponent that is 896 higher.
use mathlib.Core.Path.{◌≡◌, refl, sym, ap, ◌∙◌, subst}
use mathlib.Core.Logic.{◌⊎◌, inl, inr}
use mathlib.Core.Bool.{Bool, true, false, not, cond, ◌&&◌}
use Prim.Native.Nat.{ℕ, zero, suc, ◌+◌, ◌-◌, ◌*◌, ◌/◌, ◌%◌, ◌^◌, ◌≤◌, ◌<◌}
use native.Mathlib.Nat.{le_of_lt, lt_of_lt_of_le, mul_assoc, mul_comm, zero-add}
use native.Mathlib.Omega.{arith}
use lib.Dec.{T, ltb, ltb→lt, not_T, lit<}
use lib.Pow.{pow-add, pow_pos, pow_mono, shl_lt}
use lib.Ieee.{Float, nan, inf, fin, binary32, binary64, up, down, units, fits, top, eq, is_nan, odd, of_fields, of_bits, to_bits, nan_bits}
use lib.Ieee.Exact.{HasValue, units_val}
use lib.Ieee.Fits.{fits_widens}
use lib.Ieee.Bits.{of_bits-fits, of_bits-to_bits, to_bits-lt, nan_bits_is, nan_bits_above}
use Rattle.ieee.proofs.Bits.{units_bits}
use Rattle.ieee.specs.Conversion.{rounded}
use Rattle.ieee.proofs.ConversionLaws.{rounded_value, rounded_self, rounded_fits}
use Rattle.ieee_cast.specs.Soft.{soft_of}
use Rattle.ieee_cast.specs.NarrowLaws.{tiny}
use Rattle.isdbs_metrics.specs.Reading.{absolute}
use Rattle.decode_soft.specs.Range.{Between, InRange, shortened}
use Rattle.decode_soft.proofs.Bits.{unsigned_is}
use Rattle.decode_soft.proofs.ShortRounding.{near_is, zero_bits}

-- a value as a greater fraction
scaled : (x : Float) (s : Bool) (a c k : ℕ) → HasValue x s a c → HasValue x s (a * k) (c * k)
scaled nan s a c k v = v
scaled (inf t) s a c k v = v
scaled (fin t m e) s a c k v = (
  v.0,
  sym (mul_assoc (m * up e) c k)
      ∙ ap (λ (n : ℕ). n * k) v.1
      ∙ mul_assoc a (down e) k
      ∙ ap (λ (n : ℕ). a * n) (mul_comm (down e) k)
      ∙ sym (mul_assoc a k (down e)),
)

-- two values of the same fraction
same_value : (x y : Float) (s : Bool) (a c : ℕ) → 0 < c → T (fits binary64 x) → T (fits binary64 y) → HasValue x s a c → HasValue y s a c → x ≡ y
same_value x y s a c pos fx fy vx vy =
    sym (rounded_self binary64 x fx) ∙ rounded_value binary64 x s a c pos vx ∙ sym (rounded_value binary64 y s a c pos vy) ∙ rounded_self binary64 y fy

-- q * 2 ^ j of the f32's units are q * 2 ^ 29 * 2 ^ (j + 896) of the f64's
units_widen : (s : Bool) (q j : ℕ) → 8388608 ≤ q → q < 16777216 → j < 254
    → of_bits binary64 (cond s (top binary64) 0 + ((j + 896) * 4503599627370496 + q * 536870912)) ≡ of_bits binary32 (cond s (top binary32) 0 + (j * 8388608 + q))
units_widen s q j lo hi hj =
    let x = units binary32 s q j in
    let y = units binary64 s (q * 536870912) (j + 896) in
    let bx : of_bits binary32 (cond s (top binary32) 0 + (j * 8388608 + q)) ≡ x = units_bits binary32 s q j (le_of_lt hi) (inr lo) (omega arith) in
    let by : of_bits binary64 (cond s (top binary64) 0 + ((j + 896) * 4503599627370496 + q * 536870912)) ≡ y =
    units_bits binary64 s (q * 536870912) (j + 896) (omega arith) (inr (omega arith)) (omega arith) in
    let fx : T (fits binary64 x) = fits_widens x (subst (λ (z : Float). T (fits binary32 z)) bx (of_bits-fits binary32 (cond s (top binary32) 0 + (j * 8388608 + q)))) in
    let fy : T (fits binary64 y) = subst (λ (z : Float). T (fits binary64 z)) by (of_bits-fits binary64 (cond s (top binary64) 0 + ((j + 896) * 4503599627370496 + q * 536870912))) in
    let vx : HasValue x s (q * 2 ^ j) (2 ^ 149) = units_val binary32 s q j (lt_of_lt_of_le (shl_lt 24 j hi) (pow_mono {i = 24 + j} {j = 277} (omega arith))) in
    let wide : q * 536870912 < 2 ^ 53 = omega arith in
    let vy : HasValue y s (q * 536870912 * 2 ^ (j + 896)) (2 ^ 1074) = units_val binary64 s (q * 536870912) (j + 896) (lt_of_lt_of_le (shl_lt 53 (j + 896) wide) (pow_mono {i = 53 + (j + 896)} {j = 2098} (omega arith))) in
    let top-same : q * 2 ^ j * 2 ^ 925 ≡ q * 536870912 * 2 ^ (j + 896) = above q j in
    let low_same : 2 ^ 149 * 2 ^ 925 ≡ 2 ^ 1074 = sym (pow-add 2 149 925) in
    let vx2 : HasValue x s (q * 536870912 * 2 ^ (j + 896)) (2 ^ 1074) = subst (λ (n : ℕ). HasValue x s n (2 ^ 1074)) top-same (subst (λ (n : ℕ). HasValue x s (q * 2 ^ j * 2 ^ 925) n) low_same (scaled x s (q * 2 ^ j) (2 ^ 149) (2 ^ 925) vx)) in
    by ∙ same_value y x s (q * 536870912 * 2 ^ (j + 896)) (2 ^ 1074) (pow_pos 1074) fy fx vy vx2 ∙ sym bx
  where
    above : (q j : ℕ) → q * 2 ^ j * 2 ^ 925 ≡ q * 536870912 * 2 ^ (j + 896)
    above q j =
        mul_assoc q (2 ^ j) (2 ^ 925)
        ∙ ap (λ (n : ℕ). q * n) (sym (pow-add 2 j 925) ∙ ap (λ (n : ℕ). 2 ^ n) (level j) ∙ pow-add 2 29 (j + 896))
        ∙ sym (mul_assoc q 536870912 (2 ^ (j + 896)))
      where
        level : (j : ℕ) → j + 925 ≡ 29 + (j + 896)
        level j = omega arith

pub widened : (s : Bool) (r : ℕ) → 8388608 ≤ r → r < 2139095040
    → of_bits binary64 (cond s (top binary64) 0 + (r + 7516192768) * 536870912) ≡ of_bits binary32 (cond s (top binary32) 0 + r)
widened s r lo hi =
    let j = r / 8388608 - 1 in
    let q = r % 8388608 + 8388608 in
    let e : j * 8388608 + q ≡ r = omega arith in
    let g : (j + 896) * 4503599627370496 + q * 536870912 ≡ (r + 7516192768) * 536870912 = omega arith in
    ap (λ (n : ℕ). of_bits binary64 (cond s (top binary64) 0 + n)) (sym g)
    ∙ units_widen s q j (omega arith) (omega arith) (omega arith)
    ∙ ap (λ (n : ℕ). of_bits binary32 (cond s (top binary32) 0 + n)) e

-- ---- the rounded pattern of a value in the range is that of its soft value
wide_near : (b : ℕ) → Between b
    → (shortened b ≡ ((b - 4035225266123964416 + 268435455 + b / 536870912 % 2) / 536870912 + 7516192768) * 536870912)
    × (8388608 ≤ (b - 4035225266123964416 + 268435455 + b / 536870912 % 2) / 536870912)
    × ((b - 4035225266123964416 + 268435455 + b / 536870912 % 2) / 536870912 < 2139095040)
wide_near b h = go (b / 536870912 % 2) (omega arith) h.0 h.1
  where
    go : (d : ℕ) → d < 2 → 4039728865751334912 ≤ b → b < 5183643170835005440
        → ((b + 268435455 + d) / 536870912 * 536870912 ≡ ((b - 4035225266123964416 + 268435455 + d) / 536870912 + 7516192768) * 536870912)
        × (8388608 ≤ (b - 4035225266123964416 + 268435455 + d) / 536870912)
        × ((b - 4035225266123964416 + 268435455 + d) / 536870912 < 2139095040)
    go d hd lo hi = (omega arith, omega arith, omega arith)

zero_wide : (s : Bool) → of_bits binary64 (cond s (top binary64) 0 + 0) ≡ of_bits binary32 (cond s (top binary32) 0 + 0)
unfolding of_bits of_fields odd
zero_wide true = refl
zero_wide false = refl

-- by the sign and the rest of the pattern
by_sign : (s : Bool) (b : ℕ) → (b ≡ 0) ⊎ Between b → of_bits binary64 (cond s (top binary64) 0 + shortened b) ≡ rounded binary32 (of_bits binary64 (cond s (top binary64) 0 + b))
by_sign s b (inl e) =
    ap (λ (n : ℕ). of_bits binary64 (cond s (top binary64) 0 + shortened n)) e
    ∙ zero_wide s
    ∙ (tiny 0 (lit< tt)).nearest s
    ∙ ap (λ (n : ℕ). rounded binary32 (of_bits binary64 (cond s (top binary64) 0 + n))) (sym e)
by_sign s b (inr h) =
    let r = (b - 4035225266123964416 + 268435455 + b / 536870912 % 2) / 536870912 in
    let w = wide_near b h in
    ap (λ (n : ℕ). of_bits binary64 (cond s (top binary64) 0 + n)) w.0
    ∙ widened s r w.1 w.2
    ∙ (near_is b (b - 4035225266123964416 + 268435455 + b / 536870912 % 2) h refl).nearest s

pub in_range : (x : Float) → InRange x → (to_bits binary64 x % 9223372036854775808 ≡ 0) ⊎ Between (to_bits binary64 x % 9223372036854775808)
in_range x h = go (eq x (of_bits binary64 0)) refl
  where
    go : (t : Bool) → eq x (of_bits binary64 0) ≡ t → (to_bits binary64 x % 9223372036854775808 ≡ 0) ⊎ Between (to_bits binary64 x % 9223372036854775808)
    go true e = inl (zero_bits x e)
    go false e = inr (h.between e)

-- the sign's digit stays
record Parts (n : ℕ) : Type 0 where
  s : Bool
  whole : cond s 9223372036854775808 0 + n % 9223372036854775808 ≡ n
  short : cond s 9223372036854775808 0 + shortened (n % 9223372036854775808) ≡ shortened n

lift : (m : ℕ) → (9223372036854775808 + m) / 536870912 ≡ 17179869184 + m / 536870912
lift m = omega arith

even : (k : ℕ) → (17179869184 + k) % 2 ≡ k % 2
even k = omega arith

joined : (m k : ℕ) → k ≡ 17179869184 + m → 9223372036854775808 + m * 536870912 ≡ k * 536870912
joined m k e = omega arith

carry : (b d : ℕ) → 9223372036854775808 + (b + 268435455 + d) / 536870912 * 536870912 ≡ (9223372036854775808 + b + 268435455 + d) / 536870912 * 536870912
carry b d =
    let e : 9223372036854775808 + (b + 268435455 + d) ≡ 9223372036854775808 + b + 268435455 + d = omega arith in
    joined ((b + 268435455 + d) / 536870912) ((9223372036854775808 + b + 268435455 + d) / 536870912) (ap (λ (n : ℕ). n / 536870912) (sym e) ∙ lift (b + 268435455 + d))

short_above : (b : ℕ) → 9223372036854775808 + shortened b ≡ shortened (9223372036854775808 + b)
short_above b =
    carry b (b / 536870912 % 2)
    ∙ ap (λ (k : ℕ). (9223372036854775808 + b + 268435455 + k) / 536870912 * 536870912) (sym (ap (λ (k : ℕ). k % 2) (lift b) ∙ even (b / 536870912)))

whole_is : (n : ℕ) → n / 9223372036854775808 ≡ 1 → 9223372036854775808 + n % 9223372036854775808 ≡ n
whole_is n e = omega arith

parts : (n : ℕ) → n < 18446744073709551616 → Parts n
parts n h = go (n / 9223372036854775808) refl
  where
    go : (x : ℕ) → n / 9223372036854775808 ≡ x → Parts n
    go zero e = let z : n % 9223372036854775808 ≡ n = omega arith in record { s = false; whole = omega arith; short = zero-add (shortened (n % 9223372036854775808)) ∙ ap shortened z }
    go (suc zero) e =
        let b = n % 9223372036854775808 in
        let z : 9223372036854775808 + b ≡ n = whole_is n e in
        record { s = true; whole = z; short = short_above b ∙ ap shortened z }
    go (suc (suc x)) e = absurd (omega arith)

pub near_soft : (x : Float) → T (fits binary64 x) → InRange x → of_bits binary64 (shortened (to_bits binary64 x)) ≡ soft_of x
unfolding soft_of
near_soft x t h =
    let p = parts (to_bits binary64 x) (to_bits-lt binary64 x t) in
    ap (λ (n : ℕ). of_bits binary64 n) (sym p.short)
    ∙ by_sign p.s (to_bits binary64 x % 9223372036854775808) (in_range x h)
    ∙ ap (λ (n : ℕ). rounded binary32 (of_bits binary64 n)) p.whole
    ∙ ap (λ (y : Float). rounded binary32 y) (of_bits-to_bits binary64 x t)

pub near_absolute : (x : Float) → T (fits binary64 x) → InRange x → of_bits binary64 (shortened (to_bits binary64 x % 9223372036854775808)) ≡ soft_of (absolute x)
unfolding soft_of
near_absolute x t h =
    let b = to_bits binary64 x % 9223372036854775808 in
    ap (λ (n : ℕ). of_bits binary64 n) (sym (zero-add (shortened b)))
    ∙ by_sign false b (in_range x h)
    ∙ ap (λ (n : ℕ). rounded binary32 (of_bits binary64 n)) (zero-add b)
    ∙ ap (λ (y : Float). rounded binary32 y) (unsigned_is x t)

-- ---- it is no NaN
few : (b : ℕ) → (b ≡ 0) ⊎ Between b → shortened b ≤ 5183643171103440896
few b (inl e) = let q : b / 536870912 % 2 < 2 = omega arith in omega arith
few b (inr h) = let q : b / 536870912 % 2 < 2 = omega arith in let l = h.1 in omega arith

pub short_ok : (n : ℕ) → n < 18446744073709551616 → (n % 9223372036854775808 ≡ 0) ⊎ Between (n % 9223372036854775808) → T (not (nan_bits binary64 (shortened n)))
short_ok n h g =
    let p = parts n h in
    subst (λ (k : ℕ). T (not (nan_bits binary64 k))) p.short (go p.s (shortened (n % 9223372036854775808)) (few (n % 9223372036854775808) g))
  where
    clash : (k : ℕ) → k ≤ 5183643171103440896 → 9218868437227405312 < k % 9223372036854775808 → ⊥
    clash k l q = omega arith

    over : (k : ℕ) → k ≤ 5183643171103440896 → 9218868437227405312 < (9223372036854775808 + k) % 9223372036854775808 → ⊥
    over k l q = omega arith

    none : (m : ℕ) → (9218868437227405312 < m % 9223372036854775808 → ⊥) → T (not (nan_bits binary64 m))
    none m f =
        subst (λ (t : Bool). T (not t)) (sym (nan_bits_above binary64 m))
        (not_T (ltb 9218868437227405312 (m % 9223372036854775808)) (λ (t : T (ltb 9218868437227405312 (m % 9223372036854775808))). f (ltb→lt 9218868437227405312 (m % 9223372036854775808) t)))

    go : (s : Bool) (k : ℕ) → k ≤ 5183643171103440896 → T (not (nan_bits binary64 (cond s 9223372036854775808 0 + k)))
    go true k l = none (9223372036854775808 + k) (over k l)
    go false k l = none (0 + k) (λ q. clash k l (rw (zero-add k) at q))

pub short_few : (n : ℕ) → n < 18446744073709551616 → (n % 9223372036854775808 ≡ 0) ⊎ Between (n % 9223372036854775808) → n < 18442240474082181120
short_few n h (inl e) = omega arith
short_few n h (inr b) = let l = b.1 in omega arith

-- ---- and an f32 number
both : (a b : Bool) → T a → T b → T (a && b)
both true b p q = q
both false b p q = p

pub exact : (y : Float) (n : ℕ) → of_bits binary64 n ≡ soft_of y → T (not (nan_bits binary64 n)) → T (fits binary32 (of_bits binary64 n) && not (is_nan (of_bits binary64 n)))
unfolding soft_of
exact y n e ok =
    both (fits binary32 (of_bits binary64 n)) (not (is_nan (of_bits binary64 n)))
    (subst (λ (z : Float). T (fits binary32 z)) (sym e) (rounded_fits binary32 y))
    (subst (λ (t : Bool). T (not t)) (nan_bits_is binary64 n) ok)

-- the sign is dropped once
pub once : (n : ℕ) → (n % 9223372036854775808 ≡ 0) ⊎ Between (n % 9223372036854775808) → (n % 9223372036854775808 % 9223372036854775808 ≡ 0) ⊎ Between (n % 9223372036854775808 % 9223372036854775808)
once n h = let e : n % 9223372036854775808 % 9223372036854775808 ≡ n % 9223372036854775808 = omega arith in subst (λ (k : ℕ). (k ≡ 0) ⊎ Between k) (sym e) h
