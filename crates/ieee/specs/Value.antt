-- A finite float as two natural numbers: its value is hi - lo of its format's smallest unit, 2 ^ -low, and one of the two is 0 (`one_side`).
-- `Num f x`: x is finite and the format f holds it. `Digits f n`: n units are prec f digits and a power of two. `neg` changes hi and lo over.
--
use Rattle.std.specs.Prelude.{◌≡◌, refl, ◌⊎◌, Bool, true, false, ◌&&◌, cond, ℕ, zero, suc, ◌+◌, ◌-◌, ◌*◌, ◌/◌, ◌%◌, ◌^◌, ◌≤◌, ◌<◌, ℤ, pos, negsuc, T, leb, ltb, eqb, Float}
use Rattle.std.proofs.Common.{sym, ap, ◌∙◌, subst, inl, inr, le_of_lt, le_of_suc-le-suc, lt_of_not-le, not-le_of_lt, lt_of_mul-lt-mul_right, mul-lt-mul_of_pos_right, mul_assoc, mul_comm, mul-one, zero-mul, mul-pos, mul_right_comm, mul-div_cancel, ltb→lt, leb→le, pow-add, pow_pos}
use Rattle.std.proofs.Math.Pow.{pow-lt}
use Rattle.std.specs.Float.{nan, inf, fin, Format}
use Rattle.std.specs.Float.Ieee.{prec, emax, low, up, down, neg, fits}
use Rattle.std.specs.Float.Ieee.Digits.{back}
use Rattle.std.specs.Float.Ieee.Fits.{two, two-le_pos, down_pos, and_l, and_r, neg-fits}
use Rattle.std.specs.Float.Ieee.Exact.{HasValue}
use Rattle.std.specs.Float.Ieee.Scale.{finite, overflow}
use Rattle.ieee.specs.Nearest.{near, near_fix, near_zero}

-- ---- the magnitude in units, cut to a whole number: nothing is cut where the format holds x
unfoldable pub mag : Format → Float → ℕ
mag f nan = 0
mag f (inf s) = 0
mag f (fin s m e) = m * up e * 2 ^ low f / down e

-- the value is hi - lo
unfoldable pub hi : Format → Float → ℕ
unfolding mag
hi f nan = 0
hi f (inf s) = 0
hi f (fin false m e) = mag f (fin false m e)
hi f (fin true m e) = 0

unfoldable pub lo : Format → Float → ℕ
unfolding mag
lo f nan = 0
lo f (inf s) = 0
lo f (fin false m e) = 0
lo f (fin true m e) = mag f (fin true m e)

pub record Num (f : Format) (x : Float) : Type 0 where
  pub fin_x : T (finite x)
  pub fits_x : T (fits f x)

-- ---- what fits is a whole number of units, m * 2 ^ j
pub pow_cancel : (i j : ℕ) → 2 ^ i ≤ 2 ^ j → i ≤ j
pow_cancel i j h = le_of_suc-le-suc (lt_of_not-le (λ (g : suc j ≤ i). not-le_of_lt (pow-lt g) h))

pub record Shape (f : Format) (m : ℕ) (e : ℤ) (n : ℕ) : Type 0 where
  pub power : ℕ
  pub is : n ≡ m * 2 ^ power
  pub value : m * up e * 2 ^ low f ≡ n * down e
  pub few : m < 2 ^ prec f
  pub under : n < overflow f

parts : (f : Format) (s : Bool) (m : ℕ) (e : ℤ) → T (fits f (fin s (suc m) e)) → (suc m < 2 ^ prec f) × (down e ≤ 2 ^ low f) × (suc m * up e < 2 ^ suc (emax f) * down e)
unfolding fits
parts f s m e t =
    let a : Bool = eqb (suc m % 2) 1 in
    let b : Bool = ltb (suc m) (2 ^ prec f) in
    let c : Bool = leb (down e) (2 ^ low f) in
    let d : Bool = ltb (suc m * up e) (2 ^ suc (emax f) * down e) in (
      ltb→lt (suc m) (2 ^ prec f) (and_r a b (and_l (a && b) c (and_l (a && b && c) d t))),
      leb→le (down e) (2 ^ low f) (and_r (a && b) c (and_l (a && b && c) d t)),
      ltb→lt (suc m * up e) (2 ^ suc (emax f) * down e) (and_r (a && b && c) d t),
    )

-- n / down e, for the n of `mag`
cut : (f : Format) (m : ℕ) (e : ℤ) → down e ≤ 2 ^ low f → (j : ℕ) × (m * up e * 2 ^ low f ≡ m * 2 ^ j * down e)
cut f m (pos k) h = (k + low f, mul_assoc m (2 ^ k) (2 ^ low f) ∙ ap (λ (x : ℕ). m * x) (sym (pow-add 2 k (low f))) ∙ sym (mul-one (m * 2 ^ (k + low f))))
cut f m (negsuc k) h =
    let l : suc k ≤ low f = pow_cancel (suc k) (low f) h in (
      low f - suc k,
      ap (λ (x : ℕ). x * 2 ^ low f) (mul-one m)
          ∙ ap (λ (x : ℕ). m * 2 ^ x) (sym (back (low f) (suc k) l))
          ∙ ap (λ (x : ℕ). m * x) (pow-add 2 (low f - suc k) (suc k))
          ∙ sym (mul_assoc m (2 ^ (low f - suc k)) (2 ^ suc k)),
    )

below_top : (f : Format) (m : ℕ) (e : ℤ) (n : ℕ) → m * up e * 2 ^ low f ≡ n * down e → m * up e < 2 ^ suc (emax f) * down e → n < overflow f
below_top f m e n v h =
    lt_of_mul-lt-mul_right (down e)
    (subst (λ (x : ℕ). x < overflow f * down e) v
    (subst (λ (x : ℕ). m * up e * 2 ^ low f < x)
    (mul_right_comm (2 ^ suc (emax f)) (down e) (2 ^ low f) ∙ ap (λ (x : ℕ). x * down e) (mul_comm (2 ^ suc (emax f)) (2 ^ low f) ∙ sym (pow-add 2 (low f) (suc (emax f)))))
    (mul-lt-mul_of_pos_right h (pow_pos (low f)))))

shape_at : (f : Format) (m : ℕ) (e : ℤ) (j : ℕ) → m * up e * 2 ^ low f ≡ m * 2 ^ j * down e → m < 2 ^ prec f → m * up e < 2 ^ suc (emax f) * down e → Shape f m e (m * up e * 2 ^ low f / down e)
shape_at f m e j v a b =
    let c : m * up e * 2 ^ low f / down e ≡ m * 2 ^ j = ap (λ (x : ℕ). x / down e) v ∙ mul-div_cancel (m * 2 ^ j) (down_pos e) in
    let w : m * up e * 2 ^ low f ≡ m * up e * 2 ^ low f / down e * down e = v ∙ ap (λ (x : ℕ). x * down e) (sym c) in
    record { power = j; is = c; value = w; few = a; under = below_top f m e (m * up e * 2 ^ low f / down e) w b }

none : (f : Format) (e : ℤ) → 0 * up e * 2 ^ low f ≡ 0 * 2 ^ 0 * down e
none f e = ap (λ (x : ℕ). x * 2 ^ low f) (zero-mul (up e)) ∙ zero-mul (2 ^ low f) ∙ sym (zero-mul (down e))

pub shape : (f : Format) (s : Bool) (m : ℕ) (e : ℤ) → T (fits f (fin s m e)) → Shape f m e (mag f (fin s m e))
unfolding mag
shape f s zero e t = shape_at f 0 e 0 (none f e) (pow_pos (prec f)) (subst (λ (x : ℕ). x < 2 ^ suc (emax f) * down e) (sym (zero-mul (up e))) (mul-pos (pow_pos (suc (emax f))) (down_pos e)))
shape f s (suc m) e t =
    let p = parts f s m e t in
    let c = cut f (suc m) e p.1 in
    shape_at f (suc m) e c.0 c.1 p.0 p.2

-- ---- the two parts, from a value in units
pub hi_of : (f : Format) (x : Float) (s : Bool) (n : ℕ) → HasValue x s n (2 ^ low f) → hi f x ≡ cond s 0 n
unfolding hi
hi_of f nan s n h = absurd h
hi_of f (inf t) s n h = absurd h
hi_of f (fin true m e) s n h = ap (λ (b : Bool). cond b 0 n) h.0
hi_of f (fin false m e) s n h = ap (λ (x : ℕ). x / down e) h.1 ∙ mul-div_cancel n (down_pos e) ∙ ap (λ (b : Bool). cond b 0 n) h.0

pub lo_of : (f : Format) (x : Float) (s : Bool) (n : ℕ) → HasValue x s n (2 ^ low f) → lo f x ≡ cond s n 0
unfolding lo
lo_of f nan s n h = absurd h
lo_of f (inf t) s n h = absurd h
lo_of f (fin true m e) s n h = ap (λ (x : ℕ). x / down e) h.1 ∙ mul-div_cancel n (down_pos e) ∙ ap (λ (b : Bool). cond b n 0) h.0
lo_of f (fin false m e) s n h = ap (λ (b : Bool). cond b n 0) h.0

pub finite_of : (x : Float) (s : Bool) (n c : ℕ) → HasValue x s n c → T (finite x)
finite_of nan s n c h = absurd h
finite_of (inf t) s n c h = absurd h
finite_of (fin t m e) s n c h = tt

-- ---- one of the two is 0
pub one_side : (f : Format) (x : Float) → (hi f x ≡ 0) ⊎ (lo f x ≡ 0)
unfolding hi lo
one_side f nan = inl refl
one_side f (inf s) = inl refl
one_side f (fin true m e) = inl refl
one_side f (fin false m e) = inr refl

-- ---- both are whole numbers that the format's digits hold, and below `overflow`
fixed : (f : Format) (s : Bool) (m : ℕ) (e : ℤ) → T (fits f (fin s m e)) → near (prec f) (mag f (fin s m e)) ≡ mag f (fin s m e)
fixed f s m e t =
    let h = shape f s m e t in
    subst (λ (x : ℕ). near (prec f) x ≡ x) (sym h.is) (near_fix (prec f) m h.power (two-le_pos (prec f) (two f)) (le_of_lt h.few))

pub hi_fix : (f : Format) (x : Float) → T (fits f x) → near (prec f) (hi f x) ≡ hi f x
unfolding hi
hi_fix f nan t = near_zero (prec f) (two-le_pos (prec f) (two f))
hi_fix f (inf s) t = near_zero (prec f) (two-le_pos (prec f) (two f))
hi_fix f (fin true m e) t = near_zero (prec f) (two-le_pos (prec f) (two f))
hi_fix f (fin false m e) t = fixed f false m e t

pub lo_fix : (f : Format) (x : Float) → T (fits f x) → near (prec f) (lo f x) ≡ lo f x
unfolding lo
lo_fix f nan t = near_zero (prec f) (two-le_pos (prec f) (two f))
lo_fix f (inf s) t = near_zero (prec f) (two-le_pos (prec f) (two f))
lo_fix f (fin true m e) t = fixed f true m e t
lo_fix f (fin false m e) t = near_zero (prec f) (two-le_pos (prec f) (two f))

pub hi_under : (f : Format) (x : Float) → T (fits f x) → hi f x < overflow f
unfolding hi
hi_under f nan t = pow_pos (low f + suc (emax f))
hi_under f (inf s) t = pow_pos (low f + suc (emax f))
hi_under f (fin true m e) t = pow_pos (low f + suc (emax f))
hi_under f (fin false m e) t = (shape f false m e t).under

pub lo_under : (f : Format) (x : Float) → T (fits f x) → lo f x < overflow f
unfolding lo
lo_under f nan t = pow_pos (low f + suc (emax f))
lo_under f (inf s) t = pow_pos (low f + suc (emax f))
lo_under f (fin true m e) t = (shape f true m e t).under
lo_under f (fin false m e) t = pow_pos (low f + suc (emax f))

-- both are q * 2 ^ j with a q of the format's digits
pub record Digits (f : Format) (n : ℕ) : Type 0 where
  pub digits : ℕ
  pub power : ℕ
  pub few : digits < 2 ^ prec f
  pub is : n ≡ digits * 2 ^ power

-- ---- `neg` changes the two over
pub hi_neg : (f : Format) (x : Float) → hi f (neg x) ≡ lo f x
unfolding hi lo neg
hi_neg f nan = refl
hi_neg f (inf s) = refl
hi_neg f (fin true m e) = refl
hi_neg f (fin false m e) = refl

pub lo_neg : (f : Format) (x : Float) → lo f (neg x) ≡ hi f x
unfolding hi lo neg
lo_neg f nan = refl
lo_neg f (inf s) = refl
lo_neg f (fin true m e) = refl
lo_neg f (fin false m e) = refl

finite_neg : (x : Float) → T (finite x) → T (finite (neg x))
unfolding neg
finite_neg nan t = t
finite_neg (inf s) t = t
finite_neg (fin s m e) t = tt

pub num_neg : {f : Format} {x : Float} → Num f x → Num f (neg x)
num_neg {f} {x} h = record { fin_x = finite_neg x h.fin_x; fits_x = neg-fits f x h.fits_x }
