-- The turn by a mean that is turned by a quarter: two eighths more.
use Rattle.std.specs.Prelude.{◌≡◌, refl, Bool, true, false, cond, not, ◌&&◌, ℕ, zero, suc, ◌+◌, ◌*◌, ℤ, negsuc, Float}
use Rattle.std.proofs.Common.{sym, ◌∙◌, ap, zero-mul, mul-pos, arith, lt-ltb, le-ltb}
use Rattle.std.specs.Float.{nan, inf, fin, binary64}
use Rattle.std.specs.Float.Ieee.{up, down, add, mul, neg, lt, le, eq, of_bits, of_fields, odd}
use Rattle.std.specs.Float.Ieee.Fits.{up_pos}
use Rattle.header_sync.specs.Signs.{zero64}
use Rattle.header_mean.specs.Means.{tangent, power_of, size_of, near_axis, by_sign, turn_by}
use Rattle.header_turns.specs.Turning.{quarter_turn}
use Rattle.header_turns.specs.SignLaws.{Alike, same, zeros, neg_neg, above_neg, below_neg, not_both, alike_above, zero_below, add_either, mul_alike, square_alike, square_neg, le_alike_left, le_alike_right, zero_le_round}

pub clash : true ≡ false → ⊥
clash e = let z : ◌≡◌ {A = ℕ} 0 1 = cc in absurd (omega arith)

-- ---- a value that is not 0 and no NaN is above 0 or below it
pub some_side : (s : Bool) (m : ℕ) (e : ℤ) → lt (fin s (suc m) e) zero64 ≡ not (lt zero64 (fin s (suc m) e))
unfolding lt of_bits of_fields odd
some_side true m e = lt-ltb 0 (suc m * up e * 1 + 0 * down e) (let p = mul-pos {m = suc m} {n = up e} (omega arith) (up_pos e) in omega arith)
some_side false m e =
    let p = mul-pos {m = suc m} {n = up e} (omega arith) (up_pos e) in
    let z = zero-mul (down e) in
    le-ltb (suc m * up e * 1) (0 * down e) (omega arith) ∙ sym (ap not (lt-ltb (0 * down e) (suc m * up e * 1) (omega arith)))

neither_side : (x : Float) → lt zero64 x ≡ false → lt x zero64 ≡ false → Alike (neg x) x
unfolding neg lt of_bits of_fields odd
neither_side nan h k = same
neither_side (inf true) h k = let z : ◌≡◌ {A = ℕ} 0 1 = cc in absurd (omega arith)
neither_side (inf false) h k = let z : ◌≡◌ {A = ℕ} 0 1 = cc in absurd (omega arith)
neither_side (fin s zero e) h k = zeros
neither_side (fin s (suc m) e) h k = let g = some_side s m e in let z : true ≡ false = sym (g ∙ ap not h) ∙ k in absurd (clash z)

-- ---- |x| and |-x|
pub size_neg : (x : Float) → Alike (size_of (neg x)) (size_of x)
unfolding size_of
size_neg x = rw (below_neg x, neg_neg x) (by (lt zero64 x) (lt x zero64) refl refl)
  where
    by : (p q : Bool) → lt zero64 x ≡ p → lt x zero64 ≡ q → Alike (cond p x (neg x)) (cond q (neg x) x)
    by true true e g = absurd (clash (sym g ∙ not_both x e))
    by true false e g = same
    by false true e g = same
    by false false e g = neither_side x e g

size_alike : {x y : Float} → Alike x y → Alike (size_of x) (size_of y)
unfolding size_of
size_alike same = same
size_alike (zeros {s} {t} {e}) = rw (zero_below s e, zero_below t e) zeros

pub size_some : (s : Bool) (m : ℕ) (e : ℤ) → size_of (fin s (suc m) e) ≡ fin false (suc m) e
unfolding size_of neg lt of_bits of_fields odd
size_some true m e = rw (some_side true m e) refl
size_some false m e =
    let p = mul-pos {m = suc m} {n = up e} (omega arith) (up_pos e) in
    let z = zero-mul (down e) in
    rw (le-ltb (suc m * up e * 1) (0 * down e) (omega arith)) refl

-- ---- near an axis
pub near_left : {x z : Float} (y : Float) → Alike x z → near_axis x y ≡ near_axis z y
unfolding near_axis
near_left y a = le_alike_right (size_of y) (mul_alike binary64 tangent (size_alike a))

pub near_right : (x : Float) {y z : Float} → Alike y z → near_axis x y ≡ near_axis x z
unfolding near_axis
near_right x a = le_alike_left (size_alike a) (mul binary64 tangent (size_of x))

pub near_neg_left : (x y : Float) → near_axis (neg x) y ≡ near_axis x y
unfolding near_axis
near_neg_left x y = le_alike_right (size_of y) (mul_alike binary64 tangent (size_neg x))

pub near_neg_right : (x y : Float) → near_axis x (neg y) ≡ near_axis x y
unfolding near_axis
near_neg_right x y = le_alike_left (size_neg y) (mul binary64 tangent (size_of x))

-- its digits: t = 3730904090310553 / 2 ^ 53
pub tangent_is : tangent ≡ fin false 3730904090310553 (negsuc 52)
unfolding of_bits of_fields odd
tangent_is = refl

zero_le_mul : (s : Bool) (e : ℤ) (m n : ℕ) (c d : ℤ) → le (fin s 0 e) (mul binary64 (fin false m c) (fin false n d)) ≡ true
unfolding mul
zero_le_mul s e m n c d = zero_le_round binary64 s e (m * up c * (n * up d)) (down c * down d)

times_tangent : (s : Bool) (e : ℤ) (n : ℕ) (d : ℤ) → le (fin s 0 e) (mul binary64 tangent (fin false n d)) ≡ true
times_tangent s e n d = ap (λ (t : Float). le (fin s 0 e) (mul binary64 t (fin false n d))) tangent_is ∙ zero_le_mul s e 3730904090310553 n (negsuc 52) d

pub zero_size : (s : Bool) (e : ℤ) → size_of (fin s 0 e) ≡ fin s 0 e
unfolding size_of
zero_size s e = rw (zero_below s e) refl

far : (s : Bool) (e : ℤ) (u : Bool) → le (fin s 0 e) (mul binary64 tangent (size_of (inf u))) ≡ true
unfolding size_of neg mul le lt eq of_bits of_fields odd
far s e true = refl
far s e false = refl

-- 0 is near every value that is no NaN
near_zero : (s : Bool) (e : ℤ) (x : Float) → (x ≡ nan → ⊥) → near_axis x (fin s 0 e) ≡ true
unfolding near_axis
near_zero s e x h = ap (λ (z : Float). le z (mul binary64 tangent (size_of x))) (zero_size s e) ∙ by x h
  where
    by : (x : Float) → (x ≡ nan → ⊥) → le (fin s 0 e) (mul binary64 tangent (size_of x)) ≡ true
    by nan h = absurd (h refl)
    by (inf u) h = far s e u
    by (fin u zero d) h = ap (λ (z : Float). le (fin s 0 e) (mul binary64 tangent z)) (zero_size u d) ∙ le_alike_right (fin s 0 e) (mul_alike binary64 tangent (zeros {s = u} {t = false} {e = d})) ∙ times_tangent s e 0 d
    by (fin u (suc n) d) h = ap (λ (z : Float). le (fin s 0 e) (mul binary64 tangent z)) (size_some u n d) ∙ times_tangent s e (suc n) d

-- ---- the square of the size
times_nan : mul binary64 nan nan ≡ nan
unfolding mul
times_nan = refl

add_nan : (z : Float) → add binary64 z nan ≡ nan
unfolding add
add_nan nan = refl
add_nan (inf s) = refl
add_nan (fin s m e) = refl

pub no_nan_left : (y : Float) → lt zero64 (power_of nan y) ≡ false
unfolding power_of mul add lt of_bits of_fields odd
no_nan_left y = refl

power_nan : (x : Float) → power_of x nan ≡ nan
unfolding power_of
power_nan x = ap (add binary64 (mul binary64 x x)) times_nan ∙ add_nan (mul binary64 x x)

above_nan : lt zero64 nan ≡ false
unfolding lt of_bits of_fields odd
above_nan = refl

pub no_nan_right : (x : Float) → lt zero64 (power_of x nan) ≡ false
no_nan_right x = ap (lt zero64) (power_nan x) ∙ above_nan

pub power_quarter : (x y z : Float) → Alike (neg y) z → power_of z x ≡ power_of x y
unfolding power_of
power_quarter x y z a =
    ap (λ (w : Float). add binary64 w (mul binary64 x x)) (sym (square_alike binary64 a) ∙ square_neg binary64 y)
    ∙ add_either binary64 (mul binary64 y y) (mul binary64 x x)

-- ---- the turn
sided : (x y : Float) → lt zero64 (power_of x y) ≡ true → near_axis x y ≡ false → lt y zero64 ≡ not (lt zero64 y)
unfolding lt of_bits of_fields odd
sided x nan h k = absurd (clash (sym h ∙ no_nan_right x))
sided x (inf true) h k = refl
sided x (inf false) h k = refl
sided x (fin s zero e) h k = absurd (clash (sym (near_zero s e x (λ z. clash (sym h ∙ ap (λ (w : Float). lt zero64 (power_of w (fin s 0 e))) z ∙ no_nan_left (fin s 0 e)))) ∙ k))
sided x (fin s (suc m) e) h k = some_side s m e

-- a and b: whether x and y are above 0; c: whether y is below 0
told : (p q a b c : Bool) → p && q ≡ false → (p ≡ false → c ≡ not b)
    → cond {A = ℕ} q (cond c 0 4) (cond p (cond a 2 6) (cond a (cond c 1 3) (cond c 7 5)))
    ≡ quarter_turn (cond p (cond a 0 4) (cond q (cond b 2 6) (cond b (cond a 1 3) (cond a 7 5))))
told true true a b c e h = absurd (clash e)
told true false true b c e h = refl
told true false false b c e h = refl
told false true a true c e h = rw (h refl) refl
told false true a false c e h = rw (h refl) refl
told false false true true c e h = rw (h refl) refl
told false false true false c e h = rw (h refl) refl
told false false false true c e h = rw (h refl) refl
told false false false false c e h = rw (h refl) refl

-- (x, y) turned by a quarter is (-y, x), up to the sign of 0; not where it lies near both axes, as only two infinities do (AxesLaws)
pub turn_quarter : (x y z : Float) → Alike (neg y) z → lt zero64 (power_of x y) ≡ true → near_axis x y && near_axis y x ≡ false → turn_by z x ≡ quarter_turn (turn_by x y)
unfolding turn_by by_sign
turn_quarter x y z a h k =
    rw (sym (near_left x a) ∙ near_neg_left y x, sym (near_right x a) ∙ near_neg_right x y, sym (alike_above a) ∙ above_neg y)
    (told (near_axis x y) (near_axis y x) (lt zero64 x) (lt zero64 y) (lt y zero64) k (sided x y h))
