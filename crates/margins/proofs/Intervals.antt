-- Intervals of floats, inclusive, through the operations of the demapper. The ends of a result are the same operations on the ends, so a bound at closed ends is computed.
-- A part need only lie between finite ends; results of operations fit their format.
use Rattle.std.specs.Prelude.{◌≡◌, refl, true, false, ℕ, ◌+◌, ◌-◌, ◌≤◌, T, Float}
use Rattle.std.proofs.Common.{lt_of_le_of_lt, arith}
use Rattle.std.specs.Float.{nan, inf, fin, Format, binary32}
use Rattle.std.specs.Float.Ieee.{prec, fits, neg, add, mul, le, of_bits}
use Rattle.std.specs.Float.Ieee.Fits.{mul-fits}
use Rattle.std.specs.Float.Ieee.Scale.{finite}
use Rattle.ieee.specs.Nearest.{near_mono}
use Rattle.ieee.specs.Value.{hi, lo, Num}
use Rattle.ieee.specs.Order.{le→value, value→le, num_between, finite_between}
use Rattle.ieee.specs.Rounding.{prec_pos, Fine, rounds_mono}
use Rattle.ieee.proofs.Sums.{add_rounds, add_fine}
use Rattle.ieee.proofs.Constants.{mul_neg}
use Rattle.ieee.specs.Conversion.{rounded}
use Rattle.ieee.proofs.ConversionLaws.{rounded_mono, le_neg}
use Rattle.ieee_cast.specs.Soft.{soft_of}
use Rattle.margins.specs.Fractions.{le_through, mul_keeps}
use Rattle.margin_ends.specs.Ends.{eight}
use Rattle.margins.specs.Intervals.{Inside, Scaled, mul_high, mul_low, scaled_up}

-- ---- from one interval into a wider one
pub inside_finite : (a b x : Float) → T (finite a) → T (finite b) → Inside a b x → T (finite x)
inside_finite a b x p q h = finite_between a x b p q h.from h.to

pub inside_wide : (a b c d x : Float) → T (finite a) → T (finite b) → T (finite c) → T (finite d) → T (le c a) → T (le b d) → Inside a b x → Inside c d x
inside_wide a b c d x p q r s h k i =
    let t = inside_finite a b x p q i in
    record { from = le_through c a x r p t h i.from; to = le_through x b d t q s i.to k }

pub inside_neg : (a b x : Float) → Inside a b x → Inside (neg b) (neg a) (neg x)
inside_neg a b x h = record { from = le_neg b x h.to; to = le_neg x a h.from }

pub mul_inside : (f : Format) (c a b x : Float) → T (finite c) → T (finite a) → T (finite b) → Inside a b x → Inside (mul_low f c a b) (mul_high f c a b) (mul f x c)
unfolding neg
mul_inside f nan a b x r p q h = absurd r
mul_inside f (inf s) a b x r p q h = absurd r
mul_inside f (fin false n d) a b x r p q h =
    let t = inside_finite a b x p q h in
    record { from = mul_keeps f a x n d p t h.from; to = mul_keeps f x b n d t q h.to }
mul_inside f (fin true n d) a b x r p q h =
    let t = inside_finite a b x p q h in
    let turn : (y : Float) → mul f y (fin true n d) ≡ neg (mul f y (fin false n d)) = λ y. mul_neg f y (fin false n d) in
    record {
      from = rw (turn b, turn x) (le_neg (mul f b (fin false n d)) (mul f x (fin false n d)) (mul_keeps f x b n d t q h.to));
      to = rw (turn x, turn a) (le_neg (mul f x (fin false n d)) (mul f a (fin false n d)) (mul_keeps f a x n d p t h.from));
    }

-- ---- sums
pub inside_num : {f : Format} {a b x : Float} → Num f a → Num f b → T (fits f x) → Inside a b x → Num f x
inside_num p q t h = num_between p q t h.from h.to

-- what lies between two exact values that do not overflow does not either
fine_inside : (f : Format) (P N P' N' P'' N'' : ℕ) → Fine f P' N' → Fine f P'' N'' → P' + N ≤ P + N' → P + N'' ≤ P'' + N → Fine f P N
fine_inside f P N P' N' P'' N'' g k h l =
    record {
      above = lt_of_le_of_lt (near_mono (prec f) (P - N) (P'' - N'') (prec_pos f) (omega arith)) k.above;
      below = lt_of_le_of_lt (near_mono (prec f) (N - P) (N' - P') (prec_pos f) (omega arith)) g.below;
    }

pub add_inside : (f : Format) (a b x c d y : Float) → Num f a → Num f b → T (fits f x) → Num f c → Num f d → T (fits f y) → T (finite (add f a c)) → T (finite (add f b d))
    → Inside a b x → Inside c d y → Inside (add f a c) (add f b d) (add f x y)
add_inside f a b x c d y p q t p' q' t' u v h k =
    let r = inside_num p q t h in
    let s = inside_num p' q' t' k in
    let l1 = le→value f a x p r h.from in
    let l2 = le→value f x b r q h.to in
    let l3 = le→value f c y p' s k.from in
    let l4 = le→value f y d s q' k.to in
    let g1 = add_fine f a c p p' u in
    let g2 = add_fine f b d q q' v in
    let r1 = add_rounds f a c p p' g1 in
    let r2 = add_rounds f b d q q' g2 in
    let z = add_rounds f x y r s (fine_inside f (hi f x + hi f y) (lo f x + lo f y) (hi f a + hi f c) (lo f a + lo f c) (hi f b + hi f d) (lo f b + lo f d) g1 g2 (omega arith) (omega arith)) in
    record {
      from = value→le f (add f a c) (add f x y) r1.num z.num (rounds_mono r1 z (omega arith));
      to = value→le f (add f x y) (add f b d) z.num r2.num (rounds_mono z r2 (omega arith));
    }

soft_is : (x : Float) → soft_of x ≡ rounded binary32 x
unfolding soft_of rounded
soft_is nan = refl
soft_is (inf s) = refl
soft_is (fin s m e) = refl

pub soft_mono : (x y : Float) → T (le x y) → T (le (soft_of x) (soft_of y))
soft_mono x y h = rw (soft_is x, soft_is y) (rounded_mono binary32 x y h)

pub soft_inside : (a b x : Float) → Inside a b x → Inside (soft_of a) (soft_of b) (soft_of x)
soft_inside a b x h = record { from = soft_mono a x h.from; to = soft_mono x b h.to }

pub scaled_inside : (a b A B x : Float) → T (finite (soft_of a)) → T (finite (soft_of b)) → T (finite (scaled_up a)) → T (finite (scaled_up b)) → T (finite A) → T (finite B) → T (le A (scaled_up a)) → T (le (scaled_up b) B)
    → Inside a b x → Scaled A B (scaled_up x)
unfolding of_bits
scaled_inside a b A B x p q r s t u h k i =
    let j = mul_inside binary32 eight (soft_of a) (soft_of b) (soft_of x) tt p q (soft_inside a b x i) in
    record {
      num = record { fin_x = inside_finite (scaled_up a) (scaled_up b) (scaled_up x) r s j; fits_x = mul-fits binary32 (soft_of x) eight };
      inside = inside_wide (scaled_up a) (scaled_up b) A B (scaled_up x) r s t u h k j;
    }
