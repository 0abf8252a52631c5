-- From the pattern of an f64 to that of the nearest f32, without signs. A pattern below the infinity's is k * 2 ^ 52 + w: w * 2 ^ k of the f64's smallest units,
-- and 2 ^ 925 of these are one of the f32's.
use Rattle.std.specs.Prelude.{◌≡◌, refl, ◌⊎◌, Bool, cond, ℕ, zero, suc, ◌+◌, ◌-◌, ◌*◌, ◌/◌, ◌%◌, ◌^◌, ◌≤◌, ◌<◌, Float}
use Rattle.std.proofs.Common.{sym, ap, ◌∙◌, inl, inr, le_trans, le_of_eq, le_of_lt, lt_of_lt_of_le, div-lt_iff_lt-mul, le-div_iff_mul-le, mul-le-mul_right, mul-le-mul, eq-or-lt_of_le, div-add-mod', mod-lt, arith, lit≤, lit<, pow-add, pow_pos, pow_mono, shl_lt}
use Rattle.std.specs.Float.{binary32, binary64}
use Rattle.std.specs.Float.Ieee.{size, units, round, hid, top, of_bits}
use Rattle.std.specs.Float.Ieee.Digits.{size-le}
use Rattle.std.specs.Float.Ieee.Exact.{units_val}
use Rattle.std.specs.Float.Ieee.Nearest.{closest}
use Rattle.ieee.proofs.Bits.{size_exact, units_bits, inf_bits, round_bits, closest_le, round_over}
use Rattle.ieee.specs.Conversion.{rounded}
use Rattle.ieee.proofs.ConversionLaws.{rounded_value}
use Rattle.ieee_cast.specs.Narrowed.{Narrowed}
use Rattle.ieee_cast.specs.ShiftLaws.{closest_add, closest_none}

-- ---- how many digits a format of p digits drops of w * 2 ^ k / 2 ^ c
all_digits : (p d w k c j : ℕ) → 0 < p → 2 ^ (p - 1 + d) ≤ w → w < 2 ^ (p + d) → k + d ≡ c + j → size (w * 2 ^ k / 2 ^ c) - p ≡ j
all_digits p d w k c j P h l x =
    ap (λ (n : ℕ). n - p)
    (size_exact (p - 1 + j) (w * 2 ^ k / 2 ^ c)
    ((le-div_iff_mul-le (pow_pos c)).1
    (le_trans (le_of_eq (sym (pow-add 2 (p - 1 + j) c) ∙ ap (λ (n : ℕ). 2 ^ n) (level (p - 1) d k c j x) ∙ pow-add 2 (p - 1 + d) k)) (mul-le-mul_right (2 ^ k) h)))
    ((div-lt_iff_lt-mul (pow_pos c)).1
    (lt_of_lt_of_le (shl_lt (p + d) k l) (le_of_eq (ap (λ (n : ℕ). 2 ^ n) (over p d k c j P x) ∙ pow-add 2 (suc (p - 1 + j)) c)))))
    ∙ less p j P
  where
    level : (p d k c j : ℕ) → k + d ≡ c + j → p + j + c ≡ p + d + k
    level p d k c j x = omega arith

    over : (p d k c j : ℕ) → 0 < p → k + d ≡ c + j → p + d + k ≡ suc (p - 1 + j) + c
    over p d k c j P x = omega arith

    less : (p j : ℕ) → 0 < p → suc (p - 1 + j) - p ≡ j
    less p j P = omega arith

few_digits : (p n c : ℕ) → n < 2 ^ (p + c) → size (n / 2 ^ c) - p ≡ 0
few_digits p n c h = none (size (n / 2 ^ c)) p (size-le (n / 2 ^ c) p ((div-lt_iff_lt-mul (pow_pos c)).1 (lt_of_lt_of_le h (le_of_eq (pow-add 2 p c)))))
  where
    none : (z p : ℕ) → z ≤ p → z - p ≡ 0
    none z p h = omega arith

-- ---- the f64
wide : (s : Bool) (k w : ℕ) → w < 2 ^ 53 → (k ≡ 0) ⊎ (2 ^ 52 ≤ w) → k < 2046
    → rounded binary32 (of_bits binary64 (cond s (top binary64) 0 + (k * hid binary64 + w))) ≡ round binary32 s (w * 2 ^ k) (2 ^ 1074)
wide s k w h g l =
    ap (λ (x : Float). rounded binary32 x) (units_bits binary64 s w k (le_of_lt h) g (omega arith))
    ∙ rounded_value binary32 (units binary64 s w k) s (w * 2 ^ k) (2 ^ 1074) (pow_pos 1074)
    (units_val binary64 s w k (lt_of_lt_of_le (shl_lt 53 k h) (pow_mono {i = 53 + k} {j = 2098} (omega arith))))

-- ---- the f32: j digits dropped, w over 2 ^ d kept
narrow : (b r k w d j : ℕ) → b ≡ k * 4503599627370496 + w → w < 2 ^ 53 → (k ≡ 0) ⊎ (2 ^ 52 ≤ w) → k < 2046
    → size (w * 2 ^ k / 2 ^ 925) - 24 ≡ j → k + d ≡ 925 + j → j < 254 → r ≡ j * 8388608 + closest w (2 ^ d) → Narrowed b r
narrow b r k w d j eb h g l z x m er = record {
  small = let c : closest w (2 ^ d) ≤ 16777216 = closest_le binary32 w k 925 d j z x in omega arith;
  nearest = λ (s : Bool).
      ap (λ (n : ℕ). of_bits binary32 (cond s (top binary32) 0 + n)) er
      ∙ round_bits binary32 w k 925 d j z x s (omega arith)
      ∙ sym (wide s k w h g l)
      ∙ ap (λ (n : ℕ). rounded binary32 (of_bits binary64 (cond s (top binary64) 0 + n))) (sym eb);
}

-- ---- a pattern's k and w, by its exponent's field
record Fields (b : ℕ) : Type 0 where
  k : ℕ
  w : ℕ
  is : b ≡ k * 4503599627370496 + w
  few : w < 2 ^ 53
  lead : (k ≡ 0) ⊎ (2 ^ 52 ≤ w)
  exponent : k ≡ b / 4503599627370496 - 1
  digits : 0 < b / 4503599627370496 → w ≡ b % 4503599627370496 + 4503599627370496

fields : (b : ℕ) → Fields b
fields b = go (b / 4503599627370496) refl (mod-lt b (lit≤ tt)) (div-add-mod' b 4503599627370496)
  where
    go : (x : ℕ) → b / 4503599627370496 ≡ x → b % 4503599627370496 < 4503599627370496 → b / 4503599627370496 * 4503599627370496 + b % 4503599627370496 ≡ b → Fields b
    go zero e l i = record { k = 0; w = b; is = omega arith; few = omega arith; lead = inl refl; exponent = omega arith; digits = λ (h : 0 < b / 4503599627370496). absurd (omega arith) }
    go (suc x) e l i = record { k = x; w = b % 4503599627370496 + 4503599627370496; is = omega arith; few = omega arith; lead = inr (omega arith); exponent = omega arith; digits = λ (h : 0 < b / 4503599627370496). refl }

-- ---- below 2 ^ -126 nothing is dropped
low_bits : (b r k w : ℕ) → b ≡ k * 4503599627370496 + w → w < 2 ^ 53 → (k ≡ 0) ⊎ (2 ^ 52 ≤ w) → k < 896 → r ≡ closest w (2 ^ (925 - k)) → Narrowed b r
low_bits b r k w e h g l er =
    narrow b r k w (925 - k) 0 e h g (omega arith)
    (few_digits 24 (w * 2 ^ k) 925 (lt_of_lt_of_le (shl_lt 53 k h) (pow_mono {i = 53 + k} {j = 949} (omega arith))))
    (omega arith) (lit< tt) (omega arith)

pub tiny : (b : ℕ) → b / 4503599627370496 < 873 → Narrowed b 0
tiny b l =
    let f = fields b in
    let e = f.exponent in
    let h = f.few in
    low_bits b 0 f.k f.w f.is h f.lead (omega arith)
    (sym (closest_none f.w (2 ^ (925 - f.k)) (pow_pos (925 - f.k)) (lt_of_lt_of_le (twice f.w h) (pow_mono {i = 54} {j = 925 - f.k} (omega arith)))))
  where
    twice : (w : ℕ) → w < 2 ^ 53 → w * 2 < 2 ^ 54
    twice w h = omega arith

pub subnormal : (b : ℕ) → 873 ≤ b / 4503599627370496 → b / 4503599627370496 < 897 → Narrowed b (closest (b % 4503599627370496 + 4503599627370496) (2 ^ (926 - b / 4503599627370496)))
subnormal b m l =
    let f = fields b in
    let e = f.exponent in
    low_bits b (closest (b % 4503599627370496 + 4503599627370496) (2 ^ (926 - b / 4503599627370496))) f.k f.w f.is f.few f.lead (omega arith)
    (ap (λ (n : ℕ). closest n (2 ^ (926 - b / 4503599627370496))) (sym (f.digits (omega arith))) ∙ ap (λ (n : ℕ). closest f.w (2 ^ n)) (turn (b / 4503599627370496) f.k m e))
  where
    turn : (x k : ℕ) → 873 ≤ x → k ≡ x - 1 → 926 - x ≡ 925 - k
    turn x k m e = omega arith

-- ---- from 2 ^ -126 up to 2 ^ 128 the digits are 24
pub normal : (b : ℕ) → 4039728865751334912 ≤ b → b < 5183643171103440896 → Narrowed b (closest (b - 4035225266123964416) (2 ^ 29))
normal b m l =
    let f = fields b in
    let e = f.exponent in
    let d = div-add-mod' b 4503599627370496 in
    let t : b % 4503599627370496 < 4503599627370496 = mod-lt b (lit≤ tt) in
    let i = f.is in
    let w = f.digits (omega arith) in
    let j = f.k - 896 in
    narrow b (closest (b - 4035225266123964416) (2 ^ 29)) f.k f.w 29 j f.is f.few f.lead (omega arith)
    (all_digits 24 29 f.w f.k 925 j (lit< tt) (omega arith) f.few (omega arith))
    (omega arith) (omega arith)
    (ap (λ (n : ℕ). closest n (2 ^ 29)) {x = b - 4035225266123964416} {y = j * 4194304 * 2 * 2 ^ 29 + f.w} (omega arith) ∙ closest_add (j * 4194304) f.w (2 ^ 29) (pow_pos 29) ∙ ap (λ (n : ℕ). n + closest f.w (2 ^ 29)) {x = j * 4194304 * 2} {y = j * 8388608} (omega arith))

-- ---- from there on it is the infinity
pub great : (b : ℕ) → 5183643171103440896 ≤ b → b ≤ 9218868437227405312 → Narrowed b 2139095040
unfolding rounded
great b m l = record {
  small = lit≤ tt;
  nearest = λ (s : Bool). elim (eq-or-lt_of_le l) [
    | inl e ↦ inf_bits binary32 s ∙ ap (λ (x : Float). rounded binary32 x) (sym (inf_bits binary64 s)) ∙ ap (λ (n : ℕ). rounded binary32 (of_bits binary64 (cond s (top binary64) 0 + n))) (sym e)
    | inr h ↦ over s h
  ];
}
  where
    over : (s : Bool) → b < 9218868437227405312 → of_bits binary32 (cond s (top binary32) 0 + 2139095040) ≡ rounded binary32 (of_bits binary64 (cond s (top binary64) 0 + b))
    over s h =
        let f = fields b in
        let e = f.exponent in
        let d = div-add-mod' b 4503599627370496 in
        let t : b % 4503599627370496 < 4503599627370496 = mod-lt b (lit≤ tt) in
        let w = f.digits (omega arith) in
        let v : 2 ^ 52 ≤ f.w = omega arith in
        let p : 2 ^ 1150 ≤ 2 ^ f.k = pow_mono {i = 1150} {j = f.k} (omega arith) in
        inf_bits binary32 s
        ∙ sym (round_over binary32 s (f.w * 2 ^ f.k) 925 (le_trans (le_of_eq (pow-add 2 52 1150)) (mul-le-mul v p)))
        ∙ sym (wide s f.k f.w f.few f.lead (omega arith))
        ∙ ap (λ (n : ℕ). rounded binary32 (of_bits binary64 (cond s (top binary64) 0 + n))) (sym f.is)
