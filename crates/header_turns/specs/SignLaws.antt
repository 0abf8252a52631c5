-- Sums, products and tests of floats whose signs are turned. A sum that is exactly 0 is +0 whichever way its terms are turned, so turned values are alike
-- up to the sign of 0, which no test sees.
use Rattle.std.specs.Prelude.{◌≡◌, Bool, cond, not, ◌&&◌, ◌||◌, eqb, ltb, ℤ, pos, Float}
use Rattle.std.proofs.Math.Path.{refl, ap}
use Rattle.std.proofs.Common.{sym, ◌∙◌, zero-mul, mul_comm, add_comm}
use Rattle.std.proofs.Math.Bool.{true, false}
use Prim.Native.Nat.{ℕ, zero, suc, ◌+◌, ◌-◌, ◌*◌, ◌^◌, ◌<◌, ◌≤◌}
use Rattle.std.proofs.Math.Nat.{mul-zero, mul-pos}
use native.Mathlib.Omega.{arith}
use Rattle.std.specs.Float.{Format, binary64}
use Rattle.std.specs.Float.Ieee.{nan, inf, fin, up, down, unlike, prec, emax, low, units, round, sum, add, mul, div, neg, lt, eq, le, below, level, of_bits, of_fields, odd}
use Rattle.std.specs.Float.Ieee.Fits.{up_pos, down_pos}
use borrow.Author.Tests.{lt-ltb, le-ltb, ltb-true, ltb-false, ne_eqb}
use Rattle.ieee.specs.Rounding.{round_neg}
use Rattle.ieee.proofs.Zero.{round_zero}
use Rattle.header_sync.specs.Signs.{zero64}

pub same_test : (a b x y : ℕ) → (a < b → x < y) → (b ≤ a → y ≤ x) → ltb a b ≡ ltb x y
same_test a b x y h k = by (ltb a b) refl
  where
    by : (t : Bool) → ltb a b ≡ t → ltb a b ≡ ltb x y
    by true e = e ∙ sym (lt-ltb x y (h (ltb-true a b e)))
    by false e = e ∙ sym (le-ltb x y (k (ltb-false a b e)))

-- ---- negatives
not_not : (t : Bool) → not (not t) ≡ t
not_not true = refl
not_not false = refl

pub neg_neg : (x : Float) → neg (neg x) ≡ x
unfolding neg
neg_neg nan = refl
neg_neg (inf t) = ap inf (not_not t)
neg_neg (fin t n d) = ap (λ (s : Bool). fin s n d) (not_not t)

swapped : (a b : ℕ) (t : Bool) → a ≡ 0 → below false a (not t) b ≡ below t b false a
swapped a b true e = same_test a b 0 (b + a) (λ h. omega arith) (λ h. omega arith)
swapped a b false e = sym (le-ltb b a (omega arith))

pub above_neg : (x : Float) → lt zero64 (neg x) ≡ lt x zero64
unfolding lt neg of_bits of_fields odd
above_neg nan = refl
above_neg (inf true) = refl
above_neg (inf false) = refl
above_neg (fin t n d) = swapped (0 * down d) (n * up d * 1) t (zero-mul (down d))

pub below_neg : (x : Float) → lt (neg x) zero64 ≡ lt zero64 x
below_neg x = sym (above_neg (neg x)) ∙ ap (lt zero64) (neg_neg x)

-- no value is above 0 and below 0
apart : (a b : ℕ) (t : Bool) → a ≡ 0 → below false a t b ≡ true → below t b false a ≡ false
apart a b true e h = let z : ◌≡◌ {A = ℕ} 0 1 = cc in absurd (omega arith)
apart a b false e h = le-ltb b a (omega arith)

pub not_both : (x : Float) → lt zero64 x ≡ true → lt x zero64 ≡ false
unfolding lt of_bits of_fields odd
not_both nan h = refl
not_both (inf true) h = let z : ◌≡◌ {A = ℕ} 0 1 = cc in absurd (omega arith)
not_both (inf false) h = refl
not_both (fin t n d) h = apart (0 * down d) (n * up d * 1) t (zero-mul (down d)) h

-- ---- alike up to the sign of 0
pub data Alike : Float → Float → Type 0 where
  same : {x : Float} → Alike x x
  zeros : {s t : Bool} {e : ℤ} → Alike (fin s 0 e) (fin t 0 e)

pub alike_by : {x y : Float} → x ≡ y → Alike x y
alike_by {x} e = rw (sym e) same

pub alike_sym : {x y : Float} → Alike x y → Alike y x
alike_sym same = same
alike_sym zeros = zeros

pub alike_trans : {x y z : Float} → Alike x y → Alike y z → Alike x z
alike_trans same b = b
alike_trans zeros same = zeros
alike_trans zeros zeros = zeros

pub some : (n : ℕ) → eqb (suc n) 0 ≡ false
some n = ne_eqb (suc n) 0 (λ e. omega arith)

-- ---- sums
module _ (f : Format) where
  -- 0 and nothing
  sum_none : (s u : Bool) (c : ℕ) → 0 < c → Alike (sum f s 0 u 0 c) (fin false 0 (pos 0))
  unfolding sum
  sum_none false false c l = alike_by (round_zero f false c l)
  sum_none false true c l = alike_by (round_zero f false c l)
  sum_none true false c l = alike_by (round_zero f false c l)
  sum_none true true c l = alike_trans (alike_by (round_zero f true c l)) zeros

  -- 0 and b
  sum_some : (s u : Bool) (b c : ℕ) → 0 < b → sum f s 0 u b c ≡ round f u b c
  unfolding sum
  sum_some false false b c l = ap (λ (n : ℕ). round f false n c) (omega arith)
  sum_some true true b c l = ap (λ (n : ℕ). round f true n c) (omega arith)
  sum_some false true b c l = rw (lt-ltb 0 b l) (ap (λ (n : ℕ). round f true n c) (omega arith))
  sum_some true false b c l = rw (lt-ltb 0 b l) (ap (λ (n : ℕ). round f false n c) (omega arith))

  sum_zeros : (s t u : Bool) (b c : ℕ) → 0 < c → Alike (sum f s 0 u b c) (sum f t 0 u b c)
  sum_zeros s t u zero c l = alike_trans (sum_none s u c l) (alike_sym (sum_none t u c l))
  sum_zeros s t u (suc b) c l = alike_by (sum_some s u (suc b) c (omega arith) ∙ sym (sum_some t u (suc b) c (omega arith)))

  -- of unlike signs, by how the sizes compare
  difference : (a b c : ℕ) (s p q : Bool) → ltb a b ≡ p → ltb b a ≡ q → 0 < c
      → Alike (neg (cond p (round f (not s) (b - a) c) (round f (s && q) (a - b) c))) (cond p (round f s (b - a) c) (round f (not s && q) (a - b) c))
  unfolding neg
  difference a b c s true q e g l = alike_by (sym (round_neg f (not s) (b - a) c) ∙ ap (λ (r : Bool). round f r (b - a) c) (not_not s))
  difference a b c true false true e g l = alike_by (sym (round_neg f true (a - b) c))
  difference a b c false false true e g l = alike_by (sym (round_neg f false (a - b) c))
  difference a b c s false false e g l =
      let x = ltb-false a b e in
      let y = ltb-false b a g in
      let z : a - b ≡ 0 = omega arith in
      none s z
    where
      none : (s : Bool) → a - b ≡ 0 → Alike (neg (round f (s && false) (a - b) c)) (round f (not s && false) (a - b) c)
      none true z = rw (z, round_zero f false c l) zeros
      none false z = rw (z, round_zero f false c l) zeros

  sum_turned : (s t : Bool) (a b c : ℕ) → 0 < c → Alike (neg (sum f s a t b c)) (sum f (not s) a (not t) b c)
  unfolding sum
  sum_turned false false a b c l = alike_by (sym (round_neg f false (a + b) c))
  sum_turned true true a b c l = alike_by (sym (round_neg f true (a + b) c))
  sum_turned false true a b c l = difference a b c false (ltb a b) (ltb b a) refl refl l
  sum_turned true false a b c l = difference a b c true (ltb a b) (ltb b a) refl refl l

  pub nothing : (e d : ℤ) → 0 * up e * down d ≡ 0
  nothing e d = ap (λ (k : ℕ). k * down d) (zero-mul (up e)) ∙ zero-mul (down d)

  pub add_alike : {a b : Float} → Alike a b → (x : Float) → Alike (add f a x) (add f b x)
  unfolding add
  add_alike same x = same
  add_alike (zeros {s} {t} {e}) x = by x
    where
      by : (x : Float) → Alike (add f (fin s 0 e) x) (add f (fin t 0 e) x)
      by nan = same
      by (inf u) = same
      by (fin u n d) = rw (nothing e d) (sum_zeros s t u (n * up d * down e) (down e * down d) (mul-pos (down_pos e) (down_pos d)))

  pub add_turned : (a x : Float) → Alike (neg (add f a x)) (add f (neg a) (neg x))
  unfolding add neg
  add_turned nan x = same
  add_turned (inf s) nan = same
  add_turned (inf true) (inf true) = same
  add_turned (inf true) (inf false) = same
  add_turned (inf false) (inf true) = same
  add_turned (inf false) (inf false) = same
  add_turned (inf s) (fin t n d) = same
  add_turned (fin s m e) nan = same
  add_turned (fin s m e) (inf t) = same
  add_turned (fin s m e) (fin t n d) = sum_turned s t (m * up e * down d) (n * up d * down e) (down e * down d) (mul-pos (down_pos e) (down_pos d))

  -- ---- either order
  crossed : (a b c : ℕ) (p q : Bool) → ltb a b ≡ p → ltb b a ≡ q → (s t : Bool) → 0 < c
      → cond p (round f t (b - a) c) (round f (s && q) (a - b) c) ≡ cond q (round f s (a - b) c) (round f (t && p) (b - a) c)
  crossed a b c true true e g s t l = let x = ltb-true a b e in let y = ltb-true b a g in absurd (omega arith)
  crossed a b c true false e g true true l = refl
  crossed a b c true false e g true false l = refl
  crossed a b c true false e g false true l = refl
  crossed a b c true false e g false false l = refl
  crossed a b c false true e g true t l = refl
  crossed a b c false true e g false t l = refl
  crossed a b c false false e g s t l =
      let x = ltb-false a b e in
      let y = ltb-false b a g in
      let z : a - b ≡ b - a = omega arith in
      none s t z
    where
      none : (s t : Bool) → a - b ≡ b - a → round f (s && false) (a - b) c ≡ round f (t && false) (b - a) c
      none true true z = ap (λ (n : ℕ). round f false n c) z
      none true false z = ap (λ (n : ℕ). round f false n c) z
      none false true z = ap (λ (n : ℕ). round f false n c) z
      none false false z = ap (λ (n : ℕ). round f false n c) z

  sum_comm : (s t : Bool) (a b c : ℕ) → 0 < c → sum f s a t b c ≡ sum f t b s a c
  unfolding sum
  sum_comm false false a b c l = ap (λ (n : ℕ). round f false n c) (add_comm a b)
  sum_comm true true a b c l = ap (λ (n : ℕ). round f true n c) (add_comm a b)
  sum_comm false true a b c l = crossed a b c (ltb a b) (ltb b a) refl refl false true l
  sum_comm true false a b c l = crossed a b c (ltb a b) (ltb b a) refl refl true false l

  pub add_either : (x y : Float) → add f x y ≡ add f y x
  unfolding add
  add_either nan nan = refl
  add_either nan (inf t) = refl
  add_either nan (fin t n d) = refl
  add_either (inf s) nan = refl
  add_either (inf true) (inf true) = refl
  add_either (inf true) (inf false) = refl
  add_either (inf false) (inf true) = refl
  add_either (inf false) (inf false) = refl
  add_either (inf s) (fin t n d) = refl
  add_either (fin s m e) nan = refl
  add_either (fin s m e) (inf t) = refl
  add_either (fin s m e) (fin t n d) =
      sum_comm s t (m * up e * down d) (n * up d * down e) (down e * down d) (mul-pos (down_pos e) (down_pos d))
      ∙ ap (λ (c : ℕ). sum f t (n * up d * down e) s (m * up e * down d) c) (mul_comm (down e) (down d))

  -- ---- products and quotients
  pub mul_alike : (k : Float) {x y : Float} → Alike x y → Alike (mul f k x) (mul f k y)
  unfolding mul
  mul_alike k same = same
  mul_alike k (zeros {s} {t} {e}) = by k
    where
      by : (k : Float) → Alike (mul f k (fin s 0 e)) (mul f k (fin t 0 e))
      by nan = same
      by (inf u) = same
      by (fin u n d) =
          let z : n * up d * (0 * up e) ≡ 0 = ap (λ (k : ℕ). n * up d * k) (zero-mul (up e)) ∙ mul-zero (n * up d) in
          let l : 0 < down d * down e = mul-pos (down_pos d) (down_pos e) in
          rw (z, round_zero f (unlike u s) (down d * down e) l, round_zero f (unlike u t) (down d * down e) l) zeros

  pub square_alike : {x y : Float} → Alike x y → mul f x x ≡ mul f y y
  unfolding mul
  square_alike same = refl
  square_alike (zeros {s} {t} {e}) = by s t e
    where
      by : (s t : Bool) (e : ℤ) → mul f (fin s 0 e) (fin s 0 e) ≡ mul f (fin t 0 e) (fin t 0 e)
      by true true e = refl
      by true false e = refl
      by false true e = refl
      by false false e = refl

  pub square_neg : (x : Float) → mul f (neg x) (neg x) ≡ mul f x x
  unfolding mul neg
  square_neg nan = refl
  square_neg (inf true) = refl
  square_neg (inf false) = refl
  square_neg (fin true m e) = refl
  square_neg (fin false m e) = refl

  pub div_alike : {x y : Float} → Alike x y → (k : Float) → Alike (div f x k) (div f y k)
  unfolding div
  div_alike same k = same
  div_alike (zeros {s} {t} {e}) k = by k
    where
      by : (k : Float) → Alike (div f (fin s 0 e) k) (div f (fin t 0 e) k)
      by nan = same
      by (inf u) = zeros
      by (fin u zero d) = same
      by (fin u (suc n) d) =
          let l : 0 < suc n * up d * down e = mul-pos (mul-pos (omega arith) (up_pos d)) (down_pos e) in
          rw (some n, nothing e d, round_zero f (unlike s u) (suc n * up d * down e) l, round_zero f (unlike t u) (suc n * up d * down e) l) zeros

  unlike_not : (s t : Bool) → unlike (not s) t ≡ not (unlike s t)
  unlike_not false false = refl
  unlike_not false true = refl
  unlike_not true false = refl
  unlike_not true true = refl

  pub div_turned : (x k : Float) → neg (div f x k) ≡ div f (neg x) k
  unfolding div neg
  div_turned nan k = refl
  div_turned (inf s) nan = refl
  div_turned (inf s) (inf t) = refl
  div_turned (inf s) (fin t n d) = ap inf (sym (unlike_not s t))
  div_turned (fin s m e) nan = refl
  div_turned (fin s m e) (inf t) = ap (λ (r : Bool). fin r 0 (pos 0)) (sym (unlike_not s t))
  div_turned (fin s zero e) (fin t zero d) = refl
  div_turned (fin s (suc m) e) (fin t zero d) = rw (some m) (ap inf (sym (unlike_not s t)))
  div_turned (fin s m e) (fin t (suc n) d) =
      rw (some n)
      (sym (round_neg f (unlike s t) (m * up e * down d) (suc n * up d * down e))
      ∙ ap (λ (r : Bool). round f r (m * up e * down d) (suc n * up d * down e)) (sym (unlike_not s t)))

-- ---- tests
none_below : (s : Bool) (a b : ℕ) → a ≡ 0 → b ≡ 0 → below s a false b ≡ false
none_below true a b h k = le-ltb 0 (a + b) (omega arith)
none_below false a b h k = le-ltb a b (omega arith)

none_above : (s : Bool) (a b : ℕ) → a ≡ 0 → b ≡ 0 → below false a s b ≡ false
none_above true a b h k = refl
none_above false a b h k = le-ltb a b (omega arith)

pub zero_below : (s : Bool) (e : ℤ) → lt (fin s 0 e) zero64 ≡ false
unfolding lt of_bits of_fields odd
zero_below s e = none_below s (0 * up e * 1) (0 * down e) (let z = zero-mul (up e) in omega arith) (zero-mul (down e))

pub zero_above : (s : Bool) (e : ℤ) → lt zero64 (fin s 0 e) ≡ false
unfolding lt of_bits of_fields odd
zero_above s e = none_above s (0 * down e) (0 * up e * 1) (zero-mul (down e)) (let z = zero-mul (up e) in omega arith)

pub alike_above : {x y : Float} → Alike x y → lt zero64 x ≡ lt zero64 y
alike_above same = refl
alike_above (zeros {s} {t} {e}) = zero_above s e ∙ sym (zero_above t e)

none_some : (n : ℕ) → eqb 0 (suc n) ≡ false
none_some n = ne_eqb 0 (suc n) (λ e. omega arith)

some_above_lem : (n : ℕ) → ltb 0 (suc n) ≡ true
some_above_lem n = lt-ltb 0 (suc n) (omega arith)

some_below : (n : ℕ) → ltb (suc n) 0 ≡ false
some_below n = le-ltb (suc n) 0 (omega arith)

left_zero : (s u : Bool) (b : ℕ) → (below s 0 u b || level s 0 u b) ≡ cond u (eqb 0 b) true
left_zero false false zero = refl
left_zero false false (suc b) = rw (some_above_lem b) refl
left_zero false true zero = refl
left_zero false true (suc b) = rw (none_some b) refl
left_zero true false zero = refl
left_zero true false (suc b) = rw (lt-ltb 0 (0 + suc b) (omega arith)) refl
left_zero true true zero = refl
left_zero true true (suc b) = rw (some_below b, none_some b) refl

pub right_zero : (u s : Bool) (b : ℕ) → (below u b s 0 || level u b s 0) ≡ cond u true (eqb b 0)
right_zero false false zero = refl
right_zero false false (suc b) = rw (some_below b, some b) refl
right_zero false true zero = refl
right_zero false true (suc b) = rw (some b) refl
right_zero true false zero = refl
right_zero true false (suc b) = rw (lt-ltb 0 (suc b + 0) (omega arith)) refl
right_zero true true zero = refl
right_zero true true (suc b) = rw (some_above_lem b) refl

pub le_alike_left : {x y : Float} → Alike x y → (z : Float) → le x z ≡ le y z
unfolding le lt eq
le_alike_left same z = refl
le_alike_left (zeros {s} {t} {e}) z = by z
  where
    by : (z : Float) → le (fin s 0 e) z ≡ le (fin t 0 e) z
    by nan = refl
    by (inf u) = refl
    by (fin u n d) = rw (nothing binary64 e d) (left_zero s u (n * up d * down e) ∙ sym (left_zero t u (n * up d * down e)))

pub le_alike_right : (z : Float) {x y : Float} → Alike x y → le z x ≡ le z y
unfolding le lt eq
le_alike_right z same = refl
le_alike_right z (zeros {s} {t} {e}) = by z
  where
    by : (z : Float) → le z (fin s 0 e) ≡ le z (fin t 0 e)
    by nan = refl
    by (inf u) = refl
    by (fin u n d) = rw (nothing binary64 e d) (right_zero u s (n * up d * down e) ∙ sym (right_zero u t (n * up d * down e)))

-- 0 is not above a value whose sign is +
pub zero_le_fin : (s : Bool) (e : ℤ) (m : ℕ) (d : ℤ) → le (fin s 0 e) (fin false m d) ≡ true
unfolding le lt eq
zero_le_fin s e m d = rw (nothing binary64 e d) (left_zero s false (m * up d * down e))

zero_le_odd : (s : Bool) (e : ℤ) (d q k l : ℕ) → le (fin s 0 e) (odd d false q k l) ≡ true
unfolding odd
zero_le_odd s e d zero k l = zero_le_fin s e 0 (pos 0)
zero_le_odd s e d (suc q) k l = zero_le_fin s e _ _

zero_le_units : (f : Format) (s : Bool) (e : ℤ) (q k : ℕ) → le (fin s 0 e) (units f false q k) ≡ true
unfolding units le lt eq
zero_le_units f s e q k = by (ltb (q * 2 ^ k) (2 ^ (low f + suc (emax f))))
  where
    by : (b : Bool) → le (fin s 0 e) (cond b (odd (suc (prec f)) false q k (low f)) (inf false)) ≡ true
    by true = zero_le_odd s e (suc (prec f)) q k (low f)
    by false = refl

pub zero_le_round : (f : Format) (s : Bool) (e : ℤ) (num den : ℕ) → le (fin s 0 e) (round f false num den) ≡ true
unfolding round
zero_le_round f s e num den = zero_le_units f s e _ _
