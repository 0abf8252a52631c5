-- Magnitudes of at most a power of two, in either format, through the operations of the demapper. The format holds powers of two, so no rounding crosses them.
--
use Rattle.std.specs.Prelude.{◌≡◌, refl, ◌⊎◌, true, false, ℕ, suc, ◌+◌, ◌*◌, ◌^◌, ◌≤◌, Float}
use Rattle.std.proofs.Common.{sym, ap, ◌∙◌, inl, inr, zero-le, le_of_eq, le_trans, div-one, one-mul, arith, pow-add, pow_mono}
use Rattle.std.specs.Float.{nan, inf, fin, Format, binary32, binary64}
use Rattle.std.specs.Float.Ieee.{fits, emax, low, neg, add, sub, mul, of_bits}
use Rattle.ieee.specs.Value.{mag, hi, lo, Num, one_side, hi_neg, lo_neg, num_neg}
use Rattle.ieee.specs.Order.{Le, value→le}
use Rattle.ieee.specs.Rounding.{pow2, pow2_is, pow2_add, Between}
use Rattle.ieee.proofs.Sums.{add_between, sub_between}
use Rattle.ieee.proofs.Products.{mul_bound}
use Rattle.ieee.proofs.Constants.{two_to, two_to_num}
use Rattle.ieee.proofs.ConversionLaws.{rounded_between}
use Rattle.ieee_cast.specs.Soft.{soft_of}
use Rattle.isdbs_metrics.specs.Reading.{absolute}

-- x is a number of the format f, of magnitude 2 ^ t at most
pub record Size (f : Format) (t : ℕ) (x : Float) : Type 0 where
  pub num : Num f x
  pub above : hi f x ≤ pow2 (t + low f)
  pub below : lo f x ≤ pow2 (t + low f)

-- ---- 2 ^ t itself
pub two_hi : (f : Format) (t : ℕ) → hi f (two_to t) ≡ pow2 (t + low f)
unfolding hi mag pow2
two_hi f t = div-one (1 * 2 ^ t * 2 ^ low f) ∙ ap (λ (x : ℕ). x * 2 ^ low f) (one-mul (2 ^ t)) ∙ sym (pow-add 2 t (low f))

pub two_lo : (f : Format) (t : ℕ) → lo f (two_to t) ≡ 0
unfolding lo
two_lo f t = refl

-- ---- between -2 ^ t and 2 ^ t
pub between_size : {f : Format} {t : ℕ} {z : Float} → Between f (neg (two_to t)) z (two_to t) → Size f t z
between_size {f} {t} {z} b =
    let v = b.from in
    let w = b.to in
    let h = two_hi f t in
    let l = two_lo f t in
    let h' = hi_neg f (two_to t) in
    let l' = lo_neg f (two_to t) in
    go (one_side f z) (omega arith) (omega arith)
  where
    go : (hi f z ≡ 0) ⊎ (lo f z ≡ 0) → lo f z ≤ hi f z + pow2 (t + low f) → hi f z ≤ lo f z + pow2 (t + low f) → Size f t z
    go (inl e) h k = record { num = b.num; above = omega arith; below = omega arith }
    go (inr e) h k = record { num = b.num; above = omega arith; below = omega arith }

pub size_from : {f : Format} {t : ℕ} {x : Float} → Size f t x → Le f (neg (two_to t)) x
size_from {f} {t} {x} s =
    let h = two_hi f t in
    let l = two_lo f t in
    let h' = hi_neg f (two_to t) in
    let l' = lo_neg f (two_to t) in
    let b = s.below in
    omega arith

pub size_to : {f : Format} {t : ℕ} {x : Float} → Size f t x → Le f x (two_to t)
size_to {f} {t} {x} s =
    let h = two_hi f t in
    let l = two_lo f t in
    let a = s.above in
    omega arith

-- ---- the operations
wider : (i j : ℕ) → i ≤ j → pow2 i ≤ pow2 j
unfolding pow2
wider i j h = pow_mono {i = i} {j = j} h

pub size_more : {f : Format} {x : Float} (t u : ℕ) → t ≤ u → Size f t x → Size f u x
size_more {f} {x} t u h s =
    let w = wider (t + low f) (u + low f) (omega arith) in
    record { num = s.num; above = le_trans s.above w; below = le_trans s.below w }

pub size_neg : {f : Format} {t : ℕ} {x : Float} → Size f t x → Size f t (neg x)
size_neg {f} {t} {x} s =
    let h = hi_neg f x in
    let l = lo_neg f x in
    let a = s.above in
    let b = s.below in
    record { num = num_neg s.num; above = omega arith; below = omega arith }

double : (f : Format) (t : ℕ) → pow2 (suc t + low f) ≡ 2 * pow2 (t + low f)
double f t =
    let e : suc t + low f ≡ 1 + (t + low f) = omega arith in
    ap pow2 e ∙ pow2_add 1 (t + low f)

module _ {f : Format} {t : ℕ} {x y : Float} (room : suc t ≤ emax f) (s : Size f t x) (q : Size f t y) where
  pub size_add : Size f (suc t) (add f x y)
  size_add =
      let d = double f t in
      let h = two_hi f (suc t) in
      let l = two_lo f (suc t) in
      let h' = hi_neg f (two_to (suc t)) in
      let l' = lo_neg f (two_to (suc t)) in
      let a = s.above in
      let b = s.below in
      let a' = q.above in
      let b' = q.below in
      let n = two_to_num f (suc t) room in
      between_size (add_between f x y (neg (two_to (suc t))) (two_to (suc t)) s.num q.num (num_neg n) n (omega arith) (omega arith))

  pub size_sub : Size f (suc t) (sub f x y)
  size_sub =
      let d = double f t in
      let h = two_hi f (suc t) in
      let l = two_lo f (suc t) in
      let h' = hi_neg f (two_to (suc t)) in
      let l' = lo_neg f (two_to (suc t)) in
      let a = s.above in
      let b = s.below in
      let a' = q.above in
      let b' = q.below in
      let n = two_to_num f (suc t) room in
      between_size (sub_between f x y (neg (two_to (suc t))) (two_to (suc t)) s.num q.num (num_neg n) n (omega arith) (omega arith))

-- a product
pub powers : (f : Format) (s t : ℕ) → pow2 (s + low f) * pow2 (t + low f) ≡ hi f (two_to (s + t)) * 2 ^ low f
powers f s t =
    let e : s + low f + (t + low f) ≡ s + t + low f + low f = omega arith in
    ap (λ (k : ℕ). k * pow2 (t + low f)) (pow2_is (s + low f)) ∙ sym (pow2_add (s + low f) (t + low f)) ∙ pow2_is (s + low f + (t + low f)) ∙ ap (λ (k : ℕ). 2 ^ k) e
    ∙ pow-add 2 (s + t + low f) (low f) ∙ ap (λ (k : ℕ). k * 2 ^ low f) (sym (two_hi f (s + t) ∙ pow2_is (s + t + low f)))

pub size_mul : {f : Format} {s t : ℕ} {x y : Float} → s + t ≤ emax f → Size f s x → Size f t y → Size f (s + t) (mul f x y)
size_mul {f} {s} {t} {x} {y} room a b =
    between_size
    (mul_bound f x y (two_to (s + t)) (pow2 (s + low f)) (pow2 (t + low f)) a.num b.num (two_to_num f (s + t) room) (two_lo f (s + t)) a.above a.below b.above b.below (le_of_eq (powers f s t)))

-- the magnitude alone
pub size_absolute : {f : Format} {t : ℕ} (x : Float) → Size f t x → Size f t (absolute x)
unfolding neg
size_absolute nan s = s
size_absolute (inf b) s = absurd s.num.fin_x
size_absolute (fin false m e) s = s
size_absolute (fin true m e) s = size_neg {x = fin true m e} s

-- the soft value
pub size_soft : {t : ℕ} {x : Float} → t ≤ 127 → Size binary64 t x → Size binary32 t (soft_of x)
unfolding soft_of
size_soft {t} {x} h s =
    let n = two_to_num binary32 t h in
    let m = two_to_num binary64 t (omega arith) in
    between_size
    (rounded_between binary32 (neg (two_to t)) x (two_to t) (num_neg n) n
    (value→le binary64 (neg (two_to t)) x (num_neg m) s.num (size_from s))
    (value→le binary64 x (two_to t) s.num m (size_to s)))

-- 0
pub size_zero : (t : ℕ) → Size binary32 t (of_bits binary32 0)
unfolding of_bits fits hi lo
size_zero t = record { num = record { fin_x = tt; fits_x = tt }; above = zero-le; below = zero-le }
