-- A mean with a finite part does not lie near both axes: t |x| is less than |x|, rounded too.
use Rattle.std.specs.Prelude.{◌≡◌, ◌⊎◌, Bool, true, ◌&&◌, List, ℕ, zero, suc, ◌+◌, ◌-◌, ◌*◌, ◌/◌, ◌^◌, ◌<◌, ◌≤◌, T, ℤ, pos, negsuc, Float}
use Rattle.std.proofs.Math.Path.{refl}
use Rattle.std.proofs.Common.{sym, ◌∙◌, ap, inl, inr, le_trans, le_of_eq, lt_of_le_of_lt, lt_irrefl, lt_trans, zero-mul, mul-pos, mul_comm, mul_assoc, mul-le-mul_right, arith, lit≤, pow_pos, pow-add, ne_eqb}
use Rattle.std.proofs.Math.Bool.{false}
use Rattle.std.specs.Float.{nan, inf, fin}
use Rattle.std.specs.Float.Ieee.{binary64, up, down, unlike, size, round, add, mul, neg, lt, le, eq, fits, of_bits, of_fields, odd}
use Rattle.std.specs.Float.Ieee.Fits.{up_pos, down_pos, div-fits}
use Rattle.std.specs.Float.Ieee.Scale.{finite}
use Rattle.ieee.specs.Nearest.{rnd, rnd_mono, rnd_fix}
use Rattle.ieee.specs.Value.{mag, hi, lo, Num, Shape, shape}
use Rattle.ieee.specs.Order.{le→value}
use Rattle.ieee.proofs.Products.{RoundsBy, FineBy, fine_by, mul_rounds}
use Rattle.header_sync.specs.Signs.{zero64}
use Rattle.header_mean.specs.Means.{tangent, mean_part, mean_of, mean_at, power_of, size_of, near_axis}
use Rattle.ieee.proofs.Zero.{round_zero}
use Rattle.header_turns.specs.Turning.{both_axes}
use Rattle.header_turns.specs.SignLaws.{nothing, right_zero}
use Rattle.header_turns.proofs.MeanLaws.{clash, tangent_is, size_some, zero_size, no_nan_left, no_nan_right}

-- ---- half of a value of 53 digits, rounded, is less than it
one_half : rnd 53 1 2 ≡ 0
unfolding size
one_half = refl

half_whole : (m : ℕ) → 0 < m → m < 2 ^ 53 → rnd 53 m 2 < m
half_whole zero h l = absurd (omega arith)
half_whole (suc zero) h l = rw one_half (omega arith)
half_whole (suc (suc m)) h l =
    let n = (suc (suc m) + 1) / 2 in
    let p : rnd 53 (suc (suc m)) 2 ≤ rnd 53 (n * 2 ^ 0 * 2) 2 = rnd_mono 53 (suc (suc m)) 2 (n * 2 ^ 0 * 2) 2 (omega arith) (omega arith) (omega arith) (omega arith) in
    let q : rnd 53 (n * 2 ^ 0 * 2) 2 ≡ n * 2 ^ 0 = rnd_fix 53 n 0 2 (omega arith) (omega arith) (omega arith) in
    lt_of_le_of_lt (le_trans p (le_of_eq q)) (omega arith)

half_less : (m k : ℕ) → 0 < m → m < 2 ^ 53 → rnd 53 (m * 2 ^ k) 2 < m * 2 ^ k
half_less m zero h l = let e : m * 2 ^ 0 ≡ m = omega arith in rw e (half_whole m h l)
half_less m (suc k) h l =
    let s : suc k ≡ k + 1 = omega arith in
    let e : m * 2 ^ suc k ≡ m * 2 ^ k * 2 = ap (λ (n : ℕ). m * 2 ^ n) s ∙ ap (λ (n : ℕ). m * n) (pow-add 2 k 1) ∙ sym (mul_assoc m (2 ^ k) 2) in
    let p : 0 < m * 2 ^ k = mul-pos h (pow_pos k) in
    let q : rnd 53 (m * 2 ^ k * 2) 2 ≡ m * 2 ^ k = rnd_fix 53 m k 2 (omega arith) (omega arith) (omega arith) in
    rw e (rw q (omega arith))

-- ---- t |x|
abbrev t : Float
t = fin false 3730904090310553 (negsuc 52)

t_num : Num binary64 t
unfolding fits
t_num = record { fin_x = tt; fits_x = tt }

t_small : 2 * hi binary64 t ≤ 2 ^ 1074
unfolding hi mag
t_small = lit≤ tt

product : (A W D : ℕ) → 2 * A ≤ D → (A * W + 0 * 0 - (A * 0 + 0 * W)) * 2 ≤ W * D
product A W D h =
    let p : 2 * A * W ≤ D * W = mul-le-mul_right W h in
    let q : 2 * A * W ≡ 2 * (A * W) = mul_assoc 2 A W in
    let r = mul_comm D W in
    omega arith

within : (A W D : ℕ) → 2 * A ≤ D → A * W + 0 * 0 ≤ A * 0 + 0 * W + W * D
within A W D h =
    let p : A * W ≤ D * W = mul-le-mul_right W (omega arith) in
    let r = mul_comm D W in
    omega arith

nothing_less : (A W v : ℕ) → A * 0 + 0 * W ≤ A * W + 0 * 0 + v
nothing_less A W v = omega arith

t_above : lo binary64 t ≡ 0
unfolding lo
t_above = refl

module _ (m : ℕ) (e : ℤ) (fit : T (fits binary64 (fin false (suc m) e))) where
  abbrev x : Float
  x = fin false (suc m) e

  x_num : Num binary64 x
  x_num = record { fin_x = tt; fits_x = fit }

  x_shape : Shape binary64 (suc m) e (hi binary64 x)
  unfolding hi
  x_shape = shape binary64 false (suc m) e fit

  half_units : rnd 53 (hi binary64 x) 2 < hi binary64 x
  half_units = rw x_shape.is (half_less (suc m) x_shape.power (omega arith) x_shape.few)

  x_above : lo binary64 x ≡ 0
  unfolding lo
  x_above = refl

  fine : FineBy binary64 (hi binary64 t * hi binary64 x + lo binary64 t * lo binary64 x) (hi binary64 t * lo binary64 x + lo binary64 t * hi binary64 x) (2 ^ 1074)
  fine =
      let A = hi binary64 t in
      let W = hi binary64 x in
      rw (t_above, x_above)
      (fine_by {c = x} {b = x} (A * W + 0 * 0) (A * 0 + 0 * W) (2 ^ 1074) (pow_pos 1074) x_num x_num (within A W (2 ^ 1074) t_small) (nothing_less A W (lo binary64 x * 2 ^ 1074)))

  rounds : RoundsBy binary64 (mul binary64 t x) (hi binary64 t * hi binary64 x + lo binary64 t * lo binary64 x) (hi binary64 t * lo binary64 x + lo binary64 t * hi binary64 x) (2 ^ 1074)
  rounds = mul_rounds binary64 t x t_num x_num fine

  pub product_num : Num binary64 (mul binary64 t x)
  product_num = rounds.num

  pub shrinks : hi binary64 (mul binary64 t x) < hi binary64 x
  shrinks =
      let A = hi binary64 t in
      let W = hi binary64 x in
      let r : hi binary64 (mul binary64 t x) ≡ rnd 53 (A * W + 0 * 0 - (A * 0 + 0 * W)) (2 ^ 1074) = rw (t_above, x_above) at rounds.hi_is in
      lt_of_le_of_lt (le_trans (le_of_eq r) (rnd_mono 53 (A * W + 0 * 0 - (A * 0 + 0 * W)) (2 ^ 1074) W 2 (lit≤ tt) (pow_pos 1074) (lit≤ tt) (product A W (2 ^ 1074) t_small))) half_units

-- ---- near an axis
to_T : (b : Bool) → b ≡ true → T b
to_T true e = tt
to_T false e = absurd (clash (sym e))

plus : (s : Bool) (m : ℕ) (e : ℤ) → T (fits binary64 (fin s (suc m) e)) → T (fits binary64 (fin false (suc m) e))
unfolding fits
plus s m e f = f

some_above_lem : (n : ℕ) (d : ℤ) (u : Bool) → le (fin false (suc n) d) (fin u 0 (pos 0)) ≡ false
unfolding le lt eq
some_above_lem n d u =
    let p : 0 < suc n * up d = mul-pos (omega arith) (up_pos d) in
    rw (nothing binary64 (pos 0) d) (right_zero false u (suc n * up d * 1) ∙ ne_eqb (suc n * up d * 1) 0 (λ e. omega arith))

zero_product : (s : Bool) (e : ℤ) → mul binary64 t (fin s 0 e) ≡ fin (unlike false s) 0 (pos 0)
unfolding mul
zero_product s e =
    let z : 3730904090310553 * 1 * (0 * up e) ≡ 0 = ap (λ (k : ℕ). 3730904090310553 * 1 * k) (zero-mul (up e)) in
    ap (λ (k : ℕ). round binary64 (unlike false s) k (down (negsuc 52) * down e)) z ∙ round_zero binary64 (unlike false s) (down (negsuc 52) * down e) (mul-pos (down_pos (negsuc 52)) (down_pos e))

-- t |x| of a finite x, as a test has it
times_zero : (s : Bool) (e : ℤ) → mul binary64 tangent (size_of (fin s 0 e)) ≡ fin (unlike false s) 0 (pos 0)
times_zero s e = ap (λ (w : Float). mul binary64 tangent w) (zero_size s e) ∙ ap (λ (w : Float). mul binary64 w (fin s 0 e)) tangent_is ∙ zero_product s e

times_some : (s : Bool) (m : ℕ) (e : ℤ) → mul binary64 tangent (size_of (fin s (suc m) e)) ≡ mul binary64 t (fin false (suc m) e)
times_some s m e = ap (λ (w : Float). mul binary64 tangent w) (size_some s m e) ∙ ap (λ (w : Float). mul binary64 w (fin false (suc m) e)) tangent_is

inf_above : (z : Float) → T (finite z) → le (inf false) z ≡ false
unfolding le lt eq
inf_above nan h = absurd h
inf_above (inf s) h = absurd h
inf_above (fin s m e) h = refl

inf_size : (u : Bool) → size_of (inf u) ≡ inf false
unfolding size_of lt neg of_bits of_fields odd
inf_size true = refl
inf_size false = refl

near_inf : (y : Float) (u : Bool) → T (fits binary64 y) → T (finite y) → near_axis y (inf u) ≡ false
unfolding near_axis
near_inf nan u f h = absurd h
near_inf (inf s) u f h = absurd h
near_inf (fin s zero e) u f h = rw (inf_size u, times_zero s e) (inf_above (fin (unlike false s) 0 (pos 0)) tt)
near_inf (fin s (suc m) e) u f h = rw (inf_size u, times_some s m e) (inf_above (mul binary64 t (fin false (suc m) e)) (product_num m e (plus s m e f)).fin_x)

near_none : (s : Bool) (e : ℤ) (u : Bool) (n : ℕ) (d : ℤ) → near_axis (fin s 0 e) (fin u (suc n) d) ≡ false
unfolding near_axis
near_none s e u n d = rw (times_zero s e, size_some u n d) (some_above_lem n d (unlike false s))

near_some : (s : Bool) (m : ℕ) (e : ℤ) (u : Bool) (n : ℕ) (d : ℤ) → T (fits binary64 (fin s (suc m) e)) → T (fits binary64 (fin u (suc n) d))
    → near_axis (fin s (suc m) e) (fin u (suc n) d) ≡ true → hi binary64 (fin false (suc n) d) < hi binary64 (fin false (suc m) e)
unfolding near_axis lo
near_some s m e u n d f g h =
    let x = fin false (suc m) e in
    let y = fin false (suc n) d in
    let k : le y (mul binary64 t x) ≡ true = rw (times_some s m e, size_some u n d) at h in
    let v = le→value binary64 y (mul binary64 t x) (record { fin_x = tt; fits_x = plus u n d g }) (product_num m e (plus s m e f)) (to_T (le y (mul binary64 t x)) k) in
    let w = shrinks m e (plus s m e f) in
    omega arith

-- ---- a mean of two zeros has no size
zero_square : (s : Bool) (e : ℤ) → mul binary64 (fin s 0 e) (fin s 0 e) ≡ fin (unlike s s) 0 (pos 0)
unfolding mul
zero_square s e =
    let z : 0 * up e * (0 * up e) ≡ 0 = ap (λ (k : ℕ). k * (0 * up e)) (zero-mul (up e)) ∙ zero-mul (0 * up e) in
    ap (λ (k : ℕ). round binary64 (unlike s s) k (down e * down e)) z ∙ round_zero binary64 (unlike s s) (down e * down e) (mul-pos (down_pos e) (down_pos e))

no_size : (s u : Bool) → lt zero64 (add binary64 (fin (unlike s s) 0 (pos 0)) (fin (unlike u u) 0 (pos 0))) ≡ false
unfolding lt add of_bits of_fields odd
no_size true true = refl
no_size true false = refl
no_size false true = refl
no_size false false = refl

zero_power : (s : Bool) (e : ℤ) (u : Bool) (d : ℤ) → lt zero64 (power_of (fin s 0 e) (fin u 0 d)) ≡ false
unfolding power_of
zero_power s e u d = rw (zero_square s e, zero_square u d) (no_size s u)

-- ---- not near both
pub one_finite : (x y : Float) → T (fits binary64 x) → T (fits binary64 y) → (T (finite x) ⊎ T (finite y))
    → lt zero64 (power_of x y) ≡ true → near_axis x y ≡ true → near_axis y x ≡ true → ⊥
one_finite nan y f g h p a b = clash (sym p ∙ no_nan_left y)
one_finite (inf s) nan f g h p a b = clash (sym p ∙ no_nan_right (inf s))
one_finite (inf s) (inf u) f g (inl h) p a b = absurd h
one_finite (inf s) (inf u) f g (inr h) p a b = absurd h
one_finite (inf s) (fin u n d) f g h p a b = clash (sym b ∙ near_inf (fin u n d) s g tt)
one_finite (fin s m e) nan f g h p a b = clash (sym p ∙ no_nan_right (fin s m e))
one_finite (fin s m e) (inf u) f g h p a b = clash (sym a ∙ near_inf (fin s m e) u f tt)
one_finite (fin s zero e) (fin u zero d) f g h p a b = clash (sym p ∙ zero_power s e u d)
one_finite (fin s zero e) (fin u (suc n) d) f g h p a b = clash (sym a ∙ near_none s e u n d)
one_finite (fin s (suc m) e) (fin u zero d) f g h p a b = clash (sym b ∙ near_none u d s m e)
one_finite (fin s (suc m) e) (fin u (suc n) d) f g h p a b =
    let k = near_some s m e u n d f g a in
    let l = near_some u n d s m e g f b in
    absurd (lt_irrefl (hi binary64 (fin false (suc m) e)) (lt_trans l k))

-- the mean of a header, where one of its parts is finite
pub finite_mean : (re im : List Float) (at : ℕ) → (T (finite (mean_at re im at).re) ⊎ T (finite (mean_at re im at).im)) → both_axes (mean_at re im at) ≡ false
unfolding mean_of mean_part both_axes
finite_mean re im at h =
    by (lt zero64 (mean_at re im at).power) (near_axis (mean_at re im at).re (mean_at re im at).im) (near_axis (mean_at re im at).im (mean_at re im at).re) refl refl refl
  where
    by : (p a b : Bool) → lt zero64 (mean_at re im at).power ≡ p → near_axis (mean_at re im at).re (mean_at re im at).im ≡ a → near_axis (mean_at re im at).im (mean_at re im at).re ≡ b → (p && (a && b)) ≡ false
    by true true true e k l = absurd (one_finite (mean_at re im at).re (mean_at re im at).im (div-fits binary64 _ _) (div-fits binary64 _ _) h e k l)
    by true true false e k l = refl
    by true false b e k l = refl
    by false a b e k l = refl
