-- Of the metrics of two complementary pairs of coded bits one is not below 0: those of BPSK and QPSK are each other's negative, and none of TC8PSK is below 0. Both branches
-- that leave a state send such pairs, so that the best path value never falls.
use Rattle.std.specs.Prelude.{◌≡◌, refl, ◌⊎◌, List, ℕ, zero, suc, ◌+◌, ◌-◌, ◌*◌, ◌^◌, ◌≤◌, ◌<◌, get_or, Float}
use Rattle.std.proofs.Common.{ap, ◌∙◌, inl, inr, zero-le, le_trans, le_of_eq, mul-le-mul, zero-mul, mul-zero, arith, lit≤, pow_pos}
use Rattle.std.specs.Float.{nan, inf, fin, Format, binary32, binary64}
use Rattle.std.specs.Float.Ieee.{fits, emax, prec, low, neg, add, sub, mul, of_bits}
use Rattle.ieee.specs.Nearest.{rnd}
use Rattle.ieee.specs.Value.{mag, hi, lo, Num, one_side, hi_neg, lo_neg}
use Rattle.ieee.specs.Order.{value→le}
use Rattle.ieee.specs.Rounding.{prec_pos, le_or_ge}
use Rattle.ieee.proofs.Bounds.{rounds_floor}
use Rattle.ieee.proofs.Sums.{add_rounds, add_fine, sub_is}
use Rattle.ieee.proofs.Products.{mul_rounds, fine_by, rnd_zero}
use Rattle.ieee.proofs.Constants.{two_to, two_to_num}
use Rattle.ieee.proofs.ConversionLaws.{rounded_between}
use Rattle.range_paths.specs.Values.{nothing}
use Rattle.ieee_cast.specs.Soft.{soft_of}
use Rattle.isdbs_metrics.specs.Reading.{absolute, pair_metrics}
use Rattle.range_metrics.specs.Size.{Size, powers, two_lo, size_to, size_neg, size_add, size_sub}

-- x is not below 0
abbrev pub Up : Format → Float → Type 0
Up f x = lo f x ≤ hi f x

-- the metric of the pair 2 X + Y = l, or that of its complement, is not below 0
abbrev pub Rises : List Float → ℕ → Type 0
Rises ms l = Up binary32 (get_or ms l nan) ⊎ Up binary32 (get_or ms (3 - l) nan)

nothing_lost : (f : Format) (x : Float) → Up f x → lo f x ≡ 0
nothing_lost f x h = go (one_side f x)
  where
    go : (hi f x ≡ 0) ⊎ (lo f x ≡ 0) → lo f x ≡ 0
    go (inl e) = omega arith
    go (inr e) = e

-- ---- sums and differences
module _ {t : ℕ} {x y : Float} (room : suc t ≤ 127) (s : Size binary32 t x) (q : Size binary32 t y) where
  sum_up : lo binary32 x + lo binary32 y ≤ hi binary32 x + hi binary32 y → Up binary32 (add binary32 x y)
  sum_up h =
      let r = add_rounds binary32 x y s.num q.num (add_fine binary32 x y s.num q.num (size_add room s q).num.fin_x) in
      let f = rounds_floor 0 158 r (lit≤ tt) (omega arith) in
      omega arith

  difference_up : lo binary32 x + hi binary32 y ≤ hi binary32 x + lo binary32 y → Up binary32 (sub binary32 x y)
  difference_up h =
      let r = sub_is binary32 x y s.num q.num (size_sub room s q).num.fin_x in
      let f = rounds_floor 0 158 r (lit≤ tt) (omega arith) in
      omega arith

module _ {t : ℕ} {x y : Float} (room : suc t ≤ 127) (s : Size binary32 t x) (q : Size binary32 t y) where
  -- x + y and -x - y
  equal_bits : Up binary32 (add binary32 x y) ⊎ Up binary32 (sub binary32 (neg x) y)
  equal_bits = go (le_or_ge (lo binary32 x + lo binary32 y) (hi binary32 x + hi binary32 y))
    where
      go : (lo binary32 x + lo binary32 y ≤ hi binary32 x + hi binary32 y) ⊎ (hi binary32 x + hi binary32 y ≤ lo binary32 x + lo binary32 y) → Up binary32 (add binary32 x y) ⊎ Up binary32 (sub binary32 (neg x) y)
      go (inl h) = inl (sum_up room s q h)
      go (inr h) = let a = hi_neg binary32 x in let b = lo_neg binary32 x in inr (difference_up room (size_neg s) q (omega arith))

  -- x - y and -x + y
  other_bits : Up binary32 (sub binary32 x y) ⊎ Up binary32 (add binary32 (neg x) y)
  other_bits = go (le_or_ge (lo binary32 x + hi binary32 y) (hi binary32 x + lo binary32 y))
    where
      go : (lo binary32 x + hi binary32 y ≤ hi binary32 x + lo binary32 y) ⊎ (hi binary32 x + lo binary32 y ≤ lo binary32 x + hi binary32 y) → Up binary32 (sub binary32 x y) ⊎ Up binary32 (add binary32 (neg x) y)
      go (inl h) = inl (difference_up room s q h)
      go (inr h) = let a = hi_neg binary32 x in let b = lo_neg binary32 x in inr (sum_up room (size_neg s) q (omega arith))

  swapped : {A B : Type 0} → A ⊎ B → B ⊎ A
  swapped (inl a) = inr a
  swapped (inr b) = inl b

  pub pair_rises : (l : ℕ) → l < 4 → Rises (pair_metrics x y) l
  pair_rises zero h = equal_bits
  pair_rises (suc zero) h = other_bits
  pair_rises (suc (suc zero)) h = swapped other_bits
  pair_rises (suc (suc (suc zero))) h = swapped equal_bits
  pair_rises (suc (suc (suc (suc l)))) h = absurd (omega arith)

-- ---- a product
pub product_up : {f : Format} {s t : ℕ} {x y : Float} → s + t ≤ emax f → Size f s x → Size f t y → Up f x → Up f y → Up f (mul f x y)
product_up {f} {s} {t} {x} {y} room a b u v =
    let X = hi f x in
    let Y = hi f y in
    let L = 2 ^ low f in
    let n = two_to_num f (s + t) room in
    let e : lo f x ≡ 0 = nothing_lost f x u in
    let d : lo f y ≡ 0 = nothing_lost f y v in
    let xy : lo f x * lo f y ≡ 0 = ap (λ (k : ℕ). k * lo f y) e ∙ zero-mul (lo f y) in
    let x' : lo f x * Y ≡ 0 = ap (λ (k : ℕ). k * Y) e ∙ zero-mul Y in
    let y' : X * lo f y ≡ 0 = ap (λ (k : ℕ). X * k) d ∙ mul-zero X in
    let m : X * Y ≤ hi f (two_to (s + t)) * L = le_trans (mul-le-mul a.above b.above) (le_of_eq (powers f s t)) in
    let P = X * Y + lo f x * lo f y in
    let N = X * lo f y + lo f x * Y in
    let r = mul_rounds f x y a.num b.num (fine_by P N L (pow_pos (low f)) n n (omega arith) (omega arith)) in
    let g : N - P ≡ 0 = omega arith in
    let z : lo f (mul f x y) ≡ 0 = r.lo_is ∙ ap (λ (k : ℕ). rnd (prec f) k L) g ∙ rnd_zero (prec f) L (prec_pos f) (pow_pos (low f)) in
    omega arith

-- ---- the soft value of a magnitude
pub absolute_up : (f : Format) (x : Float) → Up f (absolute x)
unfolding hi lo
absolute_up f nan = zero-le
absolute_up f (inf s) = zero-le
absolute_up f (fin s m e) = zero-le

zero_num : Num binary64 (of_bits binary32 0)
unfolding of_bits fits
zero_num = record { fin_x = tt; fits_x = tt }

zero_is : (hi binary64 (of_bits binary32 0) ≡ 0) × (lo binary64 (of_bits binary32 0) ≡ 0)
unfolding of_bits hi lo mag
zero_is = (refl, refl)

pub soft_up : {t : ℕ} {x : Float} → t ≤ 127 → Size binary64 t x → Up binary64 x → Up binary32 (soft_of x)
unfolding soft_of
soft_up {t} {x} h s u =
    let e = zero_is in
    let b =
    rounded_between binary32 (of_bits binary32 0) x (two_to t) nothing.num (two_to_num binary32 t h)
    (value→le binary64 (of_bits binary32 0) x zero_num s.num (omega arith))
    (value→le binary64 x (two_to t) s.num (two_to_num binary64 t (omega arith)) (size_to s)) in
    let f = b.from in
    let hz = nothing.hi_is in
    let lz = nothing.lo_is in
    omega arith
