-- Correlations of points within the margins. That of v with p, v being within the margins of the clean point q, lies between the two that the ends of the margins give
-- (`corr_inside`), wherever these are finite.
use Rattle.std.specs.Prelude.{Bool, true, false, cond, T, eqb, Float}
use Rattle.std.specs.Bool.{beq}
use Rattle.std.specs.Float.{nan, inf, fin, Format, binary64}
use Rattle.std.specs.Float.Ieee.{fits, unlike, neg, add, mul, of_bits}
use Rattle.std.specs.Float.Ieee.Fits.{add-fits, mul-fits}
use Rattle.std.specs.Float.Ieee.Scale.{finite}
use Rattle.ieee.specs.Value.{Num}
use Rattle.isdbs_points.specs.declared.Cplx.{Cplx}
use Rattle.isdbs_metrics.specs.Reading.{correlation}
use Rattle.margins.specs.Margins.{keeps}
use Rattle.margins.specs.Intervals.{Inside, minus, mul_low, mul_high}
use Rattle.margins.proofs.Intervals.{inside_finite, mul_inside, add_inside}
use Rattle.margins.proofs.Clean.{low_end, high_end, ends, keeps_inside}

-- ---- the ends: those of the products of the parts, added
abbrev part_low : Float → Float → Float
part_low y c = mul_low binary64 c (low_end y) (high_end y)

abbrev part_high : Float → Float → Float
part_high y c = mul_high binary64 c (low_end y) (high_end y)

unfoldable pub corr_low : Cplx → Cplx → Float
corr_low q p = add binary64 (part_low q.re p.re) (part_low q.im p.im)

unfoldable pub corr_high : Cplx → Cplx → Float
corr_high q p = add binary64 (part_high q.re p.re) (part_high q.im p.im)

-- ---- a finite sum has finite terms, a finite product finite factors
not_finite : (b : Bool) (x y : Float) → (T (finite x) → ⊥) → (T (finite y) → ⊥) → T (finite (cond b x y)) → ⊥
not_finite true x y h k t = h t
not_finite false x y h k t = k t

no : T false → ⊥
no t = t

add_finite : (f : Format) (x y : Float) → T (finite (add f x y)) → T (finite x) × T (finite y)
unfolding add
add_finite f nan y t = absurd t
add_finite f (inf s) nan t = absurd t
add_finite f (inf s) (inf u) t = absurd (not_finite (beq s u) (inf s) nan no no t)
add_finite f (inf s) (fin u n d) t = absurd t
add_finite f (fin s m e) nan t = absurd t
add_finite f (fin s m e) (inf u) t = absurd t
add_finite f (fin s m e) (fin u n d) t = (tt, tt)

mul_finite : (f : Format) (x c : Float) → T (finite (mul f x c)) → T (finite c)
unfolding mul
mul_finite f x (fin u n d) t = tt
mul_finite f nan nan t = absurd t
mul_finite f (inf s) nan t = absurd t
mul_finite f (fin s m e) nan t = absurd t
mul_finite f nan (inf u) t = absurd t
mul_finite f (inf s) (inf u) t = absurd t
mul_finite f (fin s m e) (inf u) t = absurd (not_finite (eqb m 0) nan (inf (unlike s u)) no no t)

-- ---- one part
either_fits : (s : Bool) (a b c : Float) → T (fits binary64 (cond s (mul binary64 a c) (mul binary64 b c)))
either_fits true a b c = mul-fits binary64 a c
either_fits false a b c = mul-fits binary64 b c

either_finite : (s : Bool) (a b c : Float) → T (finite (cond s (mul binary64 a c) (mul binary64 b c))) → T (finite c)
either_finite true a b c t = mul_finite binary64 a c t
either_finite false a b c t = mul_finite binary64 b c t

ends_finite : (y : Float) → T (finite (low_end y)) × T (finite (high_end y))
unfolding neg of_bits
ends_finite = ends (λ a b. T (finite a) × T (finite b)) (tt, tt) (tt, tt) (tt, tt) (tt, tt) (tt, tt)

low_num : (y c : Float) → T (finite (part_low y c)) → Num binary64 (part_low y c)
low_num y c t = record { fin_x = t; fits_x = either_fits (minus c) (high_end y) (low_end y) c }

high_num : (y c : Float) → T (finite (part_high y c)) → Num binary64 (part_high y c)
high_num y c t = record { fin_x = t; fits_x = either_fits (minus c) (low_end y) (high_end y) c }

part_inside : (y c x : Float) → T (finite (part_low y c)) → T (keeps y x) → Inside (part_low y c) (part_high y c) (mul binary64 x c)
part_inside y c x f t =
    let n = ends_finite y in
    mul_inside binary64 c (low_end y) (high_end y) x (either_finite (minus c) (high_end y) (low_end y) c f) n.0 n.1 (keeps_inside y x t)

-- ---- both
pub corr_inside : (q p v : Cplx) → T (finite (corr_low q p)) → T (finite (corr_high q p)) → T (keeps q.re v.re) → T (keeps q.im v.im) → Inside (corr_low q p) (corr_high q p) (correlation v p)
unfolding corr_low corr_high
corr_inside q p v f g s t =
    let a = add_finite binary64 (part_low q.re p.re) (part_low q.im p.im) f in
    let b = add_finite binary64 (part_high q.re p.re) (part_high q.im p.im) g in
    add_inside binary64 (part_low q.re p.re) (part_high q.re p.re) (mul binary64 v.re p.re) (part_low q.im p.im) (part_high q.im p.im) (mul binary64 v.im p.im)
    (low_num q.re p.re a.0) (high_num q.re p.re b.0) (mul-fits binary64 v.re p.re)
    (low_num q.im p.im a.1) (high_num q.im p.im b.1) (mul-fits binary64 v.im p.im) f g
    (part_inside q.re p.re v.re a.0 s) (part_inside q.im p.im v.im a.1 t)

pub corr_num : (q p v : Cplx) → T (finite (corr_low q p)) → T (finite (corr_high q p)) → T (keeps q.re v.re) → T (keeps q.im v.im) → Num binary64 (correlation v p)
corr_num q p v f g s t = record {
  fin_x = inside_finite (corr_low q p) (corr_high q p) (correlation v p) f g (corr_inside q p v f g s t);
  fits_x = add-fits binary64 (mul binary64 v.re p.re) (mul binary64 v.im p.im);
}
