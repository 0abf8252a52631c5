-- A TC8PSK point within the margins of the sent one: the four subset metrics favour the coded pair (`tc_favours`), and the sign of the correlation with the subset's point
-- is C2 (`tc_uncoded`). The bounds of the correlations are computed for all eight sent points; the rest follows from them.
use Rattle.std.specs.Prelude.{◌≡◌, refl, ◌⊎◌, Bool, true, false, cond, ◌&&◌, ℕ, zero, suc, ◌+◌, ◌*◌, ◌-◌, ◌<◌, pos, negsuc, eqb, Float}
use Rattle.std.proofs.Math.Path.{sym}
use Rattle.std.proofs.Common.{◌∙◌, subst, arith, eqb→eq, lit≤}
use Rattle.std.proofs.Math.Logic.{inl, inr}
use Rattle.std.proofs.Math.Dec.{T}
use Rattle.std.specs.Float.{fin, Format, binary32, binary64}
use Rattle.std.specs.Float.Ieee.{fits, neg, add, mul, sum, round, lt, le, eq, of_bits}
use Rattle.std.specs.Float.Ieee.Fits.{and_l, and_r}
use Rattle.std.specs.Float.Ieee.Scale.{finite}
use Rattle.ieee.specs.Value.{hi, lo, Num, hi_neg, lo_neg, num_neg}
use Rattle.ieee.specs.Order.{le→value, value→le, lt→value, value→lt}
use Rattle.ieee.specs.Rounding.{pow2}
use Rattle.trellis.specs.Lists.{upto, bit}
use Rattle.trellis.specs.ListLaws.{every, every_at}
use Rattle.isdbs_points.specs.declared.Cplx.{Cplx}
use Rattle.isdbs_points.specs.Points.{zero64, psk8_of, subset}
use Rattle.ieee.specs.Conversion.{rounded}
use Rattle.ieee_cast.specs.Soft.{soft_of}
use Rattle.isdbs_metrics.specs.Reading.{correlation, absolute}
use Rattle.path_lead.specs.Favour.{none, most, least, margin, Above, Favour}
use Rattle.margins.specs.Margins.{keeps}
use Rattle.margins.specs.Fractions.{le_through}
use Rattle.margins.specs.Intervals.{Inside, scaled_up, Scaled}
use Rattle.margins.proofs.Intervals.{inside_wide, scaled_inside}
use Rattle.margin_ends.specs.Ends.{eight}
use Rattle.margins.proofs.Correlation.{corr_low, corr_high, corr_inside, corr_num}
use Rattle.margins.proofs.Absolute.{abs_to, abs_from, abs_plus, none_num, none_hi, none_lo}
use Rattle.margins.specs.Metrics.{Sixteenths, above_by, favour_upto}

-- ---- 61/64, 9/8, 1/16 and 15/16: the correlation with the point of the sent subset, with that of its complement, with the other two
abbrev own_least : Float
own_least = fin false 61 (negsuc 5)

abbrev own_most : Float
own_most = fin false 9 (negsuc 2)

abbrev cross_most : Float
cross_most = fin false 1 (negsuc 3)

abbrev other_most : Float
other_most = fin false 15 (negsuc 3)

-- by the sent label l and another label k
abbrev by_labels : {A : Type 0} → A → A → A → ℕ → ℕ → A
by_labels a b c l k = cond (eqb k l) a (cond (eqb (k + l) 3) b c)

abbrev most_at : ℕ → ℕ → Float
most_at l k = by_labels own_most cross_most other_most l k

abbrev sent : Bool → ℕ → ℕ → Cplx
sent w c2 l = psk8_of (4 * c2 + subset w l)

abbrev point_of : Bool → ℕ → Cplx
point_of w k = psk8_of (subset w k)

-- the correlation with the point of label k stays within its bound, for the sent label l and C2
unfoldable wide_at : Bool → ℕ → ℕ → ℕ → Bool
wide_at w c2 l k =
    let low = corr_low (sent w c2 l) (point_of w k) in
    let high = corr_high (sent w c2 l) (point_of w k) in
    finite low && finite high && (le (neg (most_at l k)) low && le high (most_at l k))

-- that with the sent subset's point is 61/64 at least, with the sign that C2 gives it
unfoldable sure_at : Bool → ℕ → ℕ → Bool
sure_at w c2 l = cond (eqb c2 1) (le (corr_high (sent w c2 l) (point_of w l)) (neg own_least)) (le own_least (corr_low (sent w c2 l) (point_of w l)))

all_wide : (w : Bool) → T (every (λ c2. every (λ l. every (λ k. wide_at w c2 l k) 4) 4) 2)
unfolding every wide_at corr_low corr_high le lt eq neg add mul sum round of_bits
all_wide true = tt
all_wide false = tt

all_sure : (w : Bool) → T (every (λ c2. every (λ l. sure_at w c2 l) 4) 2)
unfolding every sure_at corr_low corr_high le lt eq neg add mul sum round of_bits
all_sure true = tt
all_sure false = tt

-- ---- bounds as floats
most_num : (l k : ℕ) → Num binary64 (most_at l k)
unfolding fits
most_num l k = go (eqb k l) (eqb (k + l) 3)
  where
    go : (a b : Bool) → Num binary64 (cond a own_most (cond b cross_most other_most))
    go true b = record { fin_x = tt; fits_x = tt }
    go false true = record { fin_x = tt; fits_x = tt }
    go false false = record { fin_x = tt; fits_x = tt }

own_num : Num binary64 own_least
unfolding fits
own_num = record { fin_x = tt; fits_x = tt }

-- ---- soft values at scale 8 of these bounds: 61/8, 9, 1/2 and 15/2
abbrev own_least8 : Float
own_least8 = fin false 61 (negsuc 2)

abbrev own_most8 : Float
own_most8 = fin false 9 (pos 0)

abbrev cross_most8 : Float
cross_most8 = fin false 1 (negsuc 0)

abbrev other_most8 : Float
other_most8 = fin false 15 (negsuc 0)

own_least8_is : Sixteenths own_least8 122 0
unfolding hi lo fits pow2
own_least8_is = record { num = record { fin_x = tt; fits_x = tt }; hi_is = refl; lo_is = refl }

cross_most8_is : Sixteenths cross_most8 8 0
unfolding hi lo fits pow2
cross_most8_is = record { num = record { fin_x = tt; fits_x = tt }; hi_is = refl; lo_is = refl }

scaled_most : (a b : Bool) (x : Float) → Inside none (cond a own_most (cond b cross_most other_most)) x → Scaled none (cond a own_most8 (cond b cross_most8 other_most8)) (scaled_up x)
unfolding soft_of rounded mul round le lt eq of_bits
scaled_most true b x i = scaled_inside none own_most none own_most8 x tt tt tt tt tt tt tt tt i
scaled_most false true x i = scaled_inside none cross_most none cross_most8 x tt tt tt tt tt tt tt tt i
scaled_most false false x i = scaled_inside none other_most none other_most8 x tt tt tt tt tt tt tt tt i

scaled_own : (a b : Bool) (x : Float) → Inside own_least (cond a own_most (cond b cross_most other_most)) x → Scaled own_least8 own_most8 (scaled_up x)
unfolding soft_of rounded mul round le lt eq of_bits
scaled_own true b x i = scaled_inside own_least own_most own_least8 own_most8 x tt tt tt tt tt tt tt tt i
scaled_own false true x i = scaled_inside own_least cross_most own_least8 own_most8 x tt tt tt tt tt tt tt tt i
scaled_own false false x i = scaled_inside own_least other_most own_least8 own_most8 x tt tt tt tt tt tt tt tt i

by_sign : (c2 : ℕ) (x y : Bool) → c2 < 2 → T (cond (eqb c2 1) x y) → ((c2 ≡ 0) × T y) ⊎ ((c2 ≡ 1) × T x)
by_sign zero x y h t = inl (refl, t)
by_sign (suc zero) x y h t = inr (refl, t)
by_sign (suc (suc c2)) x y h t = absurd (omega arith)

cross_at : (l : ℕ) → l < 4 → by_labels own_most8 cross_most8 other_most8 l (3 - l) ≡ cross_most8
cross_at zero h = refl
cross_at (suc zero) h = refl
cross_at (suc (suc zero)) h = refl
cross_at (suc (suc (suc zero))) h = refl
cross_at (suc (suc (suc (suc l)))) h = absurd (omega arith)

own_hi : 0 < hi binary64 own_least
unfolding hi
own_hi = lit≤ tt

own_lo : lo binary64 own_least ≡ 0
unfolding lo
own_lo = refl

bit_false : (b : Bool) → (T b → ⊥) → bit b ≡ 0
bit_false true h = absurd (h tt)
bit_false false h = refl

bit_true : (b : Bool) → T b → bit b ≡ 1
bit_true true h = refl
bit_true false h = absurd h

uncoded_zero : (x : Float) → Num binary64 x → T (le own_least x) → bit (lt x none) ≡ 0
uncoded_zero x p t =
    let u = le→value binary64 own_least x own_num p t in
    bit_false (lt x none) (λ (h : T (lt x none)). let v = lt→value binary64 x none p none_num h in omega (arith, own_lo, none_hi, none_lo))

uncoded_one : (x : Float) → Num binary64 x → T (le x (neg own_least)) → bit (lt x none) ≡ 1
uncoded_one x p t =
    let u = le→value binary64 x (neg own_least) p (num_neg own_num) t in
    bit_true (lt x none) (value→lt binary64 x none p none_num (omega (arith, own_hi, own_lo, none_hi, none_lo, hi_neg binary64 own_least, lo_neg binary64 own_least)))

same_le : {f : Format} (x : Float) → Num f x → T (le x x)
same_le {f} x p = value→le f x x p p (omega arith)

-- ---- a point v within the margins of the sent one
module _ (w : Bool) (c2 l : ℕ) (v : Cplx) (two : c2 < 2) (four : l < 4) (re-in : T (keeps (psk8_of (4 * c2 + subset w l)).re v.re)) (im-in : T (keeps (psk8_of (4 * c2 + subset w l)).im v.im)) where
  abbrev low : ℕ → Float
  low k = corr_low (sent w c2 l) (point_of w k)

  abbrev high : ℕ → Float
  high k = corr_high (sent w c2 l) (point_of w k)

  abbrev corr : ℕ → Float
  corr k = correlation v (point_of w k)

  wide : (k : ℕ) → k < 4 → T (wide_at w c2 l k)
  wide k h = every_at (λ k. wide_at w c2 l k) 4 (every_at (λ l. every (λ k. wide_at w c2 l k) 4) 4 (every_at (λ c2. every (λ l. every (λ k. wide_at w c2 l k) 4) 4) 2 (all_wide w) c2 two) l four) k h

  sure : T (sure_at w c2 l)
  sure = every_at (λ l. sure_at w c2 l) 4 (every_at (λ c2. every (λ l. sure_at w c2 l) 4) 2 (all_sure w) c2 two) l four

  low_finite : (k : ℕ) → k < 4 → T (finite (low k))
  unfolding wide_at
  low_finite k h = and_l (finite (low k)) (finite (high k)) (and_l (finite (low k) && finite (high k)) (le (neg (most_at l k)) (low k) && le (high k) (most_at l k)) (wide k h))

  high_finite : (k : ℕ) → k < 4 → T (finite (high k))
  unfolding wide_at
  high_finite k h = and_r (finite (low k)) (finite (high k)) (and_l (finite (low k) && finite (high k)) (le (neg (most_at l k)) (low k) && le (high k) (most_at l k)) (wide k h))

  inside : (k : ℕ) → k < 4 → Inside (low k) (high k) (corr k)
  inside k h = corr_inside (sent w c2 l) (point_of w k) v (low_finite k h) (high_finite k h) re-in im-in

  num : (k : ℕ) → k < 4 → Num binary64 (corr k)
  num k h = corr_num (sent w c2 l) (point_of w k) v (low_finite k h) (high_finite k h) re-in im-in

  inside_most : (k : ℕ) → k < 4 → Inside (neg (most_at l k)) (most_at l k) (corr k)
  unfolding wide_at
  inside_most k h =
      let n = most_num l k in
      let t = and_r (finite (low k) && finite (high k)) (le (neg (most_at l k)) (low k) && le (high k) (most_at l k)) (wide k h) in
      inside_wide (low k) (high k) (neg (most_at l k)) (most_at l k) (corr k) (low_finite k h) (high_finite k h) (num_neg n).fin_x n.fin_x
      (and_l (le (neg (most_at l k)) (low k)) (le (high k) (most_at l k)) t) (and_r (le (neg (most_at l k)) (low k)) (le (high k) (most_at l k)) t) (inside k h)

  -- C2 gives the sign of the correlation with the subset's point
  signed : ((c2 ≡ 0) × T (le own_least (corr l))) ⊎ ((c2 ≡ 1) × T (le (corr l) (neg own_least)))
  unfolding sure_at
  signed =
      let c = num l four in
      elim (by_sign c2 (le (high l) (neg own_least)) (le own_least (low l)) two sure) [
        | inl s ↦ inl (s.0, le_through own_least (low l) (corr l) tt (low_finite l four) c.fin_x s.1 (inside l four).from)
        | inr s ↦ inr (s.0, le_through (corr l) (high l) (neg own_least) c.fin_x (high_finite l four) (num_neg own_num).fin_x (inside l four).to s.1)
      ]

  uncoded_at : bit (lt (corr l) zero64) ≡ c2
  unfolding of_bits
  uncoded_at = elim signed [ inl s ↦ uncoded_zero (corr l) (num l four) s.1 ∙ sym s.0 | inr s ↦ uncoded_one (corr l) (num l four) s.1 ∙ sym s.0 ]

  -- ---- the metrics
  abbrev m : ℕ → Float
  m k = mul binary32 (soft_of (absolute (corr k))) eight

  below_at : (k : ℕ) → k < 4 → Scaled none (by_labels own_most8 cross_most8 other_most8 l k) (m k)
  below_at k h =
      scaled_most (eqb k l) (eqb (k + l) 3) (absolute (corr k)) (record { from = abs_plus (corr k) (num k h); to = abs_to (most_at l k) (corr k) (most_num l k) (num k h) (inside_most k h) })

  own_at : Scaled own_least8 own_most8 (m l)
  own_at =
      let c = num l four in
      scaled_own (eqb l l) (eqb (l + l) 3) (absolute (corr l))
      (record {
        from = abs_from own_least (corr l) own_num c (elim signed [ inl s ↦ inl s.1 | inr s ↦ inr s.1 ]);
        to = abs_to (most_at l l) (corr l) (most_num l l) c (inside_most l four);
      })

  best_at_lem : (k : ℕ) → k < 4 → T (le (m k) (m l))
  unfolding le
  best_at_lem k h = go (eqb k l) (eqb (k + l) 3) (eqb→eq k l) (below_at k h)
    where
      step : (b : Float) → T (finite b) → T (le b own_least8) → Scaled none b (m k) → T (le (m k) (m l))
      step b p t s =
          le_through (m k) own_least8 (m l) s.num.fin_x tt own_at.num.fin_x (le_through (m k) b own_least8 s.num.fin_x p tt s.inside.to t) own_at.inside.from

      go : (a b : Bool) → (T a → k ≡ l) → Scaled none (cond a own_most8 (cond b cross_most8 other_most8)) (m k) → T (le (m k) (m l))
      go true b e s = subst (λ (j : ℕ). T (le (m j) (m l))) (sym (e tt)) (same_le {f = binary32} (m l) own_at.num)
      go false true e s = step cross_most8 tt tt s
      go false false e s = step other_most8 tt tt s

  clear_at : Above margin (m l) (m (3 - l))
  clear_at =
      let s = below_at (3 - l) (omega arith) in
      let o = own_at in
      let a = own_least8_is in
      let c = cross_most8_is in
      let t = subst (λ (z : Float). T (le (m (3 - l)) z)) (cross_at l four) s.inside.to in
      let x = le→value binary32 own_least8 (m l) a.num o.num o.inside.from in
      let y = le→value binary32 (m (3 - l)) cross_most8 s.num c.num t in
      above_by (m l) (m (3 - l)) 122 8 0 (omega arith) (omega arith) (lit≤ tt)

  favours_at : Favour (upto m 4) l
  unfolding le
  favours_at =
      let o = own_at in
      favour_upto m l four
      (λ k h. (below_at k h).num)
      (λ k h. le_through least none (m k) tt tt (below_at k h).num.fin_x tt (below_at k h).inside.from)
      best_at_lem
      (le_through none own_least8 (m l) tt tt o.num.fin_x tt o.inside.from)
      (le_through (m l) own_most8 most o.num.fin_x tt tt o.inside.to tt)
      clear_at

-- ---- the two laws
pub tc_favours : (w : Bool) (c2 l : ℕ) (v : Cplx) → c2 < 2 → l < 4 → T (keeps (psk8_of (4 * c2 + subset w l)).re v.re) → T (keeps (psk8_of (4 * c2 + subset w l)).im v.im)
    → Favour (upto (λ k. mul binary32 (soft_of (absolute (correlation v (psk8_of (subset w k))))) eight) 4) l
tc_favours w c2 l v two four re-in im-in = favours_at w c2 l v two four re-in im-in

pub tc_uncoded : (w : Bool) (c2 l : ℕ) (v : Cplx) → c2 < 2 → l < 4 → T (keeps (psk8_of (4 * c2 + subset w l)).re v.re) → T (keeps (psk8_of (4 * c2 + subset w l)).im v.im)
    → bit (lt (correlation v (psk8_of (subset w l))) zero64) ≡ c2
tc_uncoded w c2 l v two four re-in im-in = uncoded_at w c2 l v two four re-in im-in
