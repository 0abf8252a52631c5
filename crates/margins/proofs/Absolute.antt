-- The absolute value of an f64: what bounds x on both sides bounds it, and what lies below x, or below -x, lies below it.
use Rattle.std.specs.Prelude.{◌≡◌, refl, ◌⊎◌, true, false, ◌+◌, T, Float}
use Rattle.std.proofs.Common.{inl, inr, arith}
use Rattle.std.specs.Float.{nan, inf, fin, Format, binary64}
use Rattle.std.specs.Float.Ieee.{fits, neg, le}
use Rattle.ieee.specs.Value.{mag, hi, lo, Num, one_side, hi_neg, lo_neg, num_neg}
use Rattle.ieee.specs.Order.{le→value, value→le}
use Rattle.isdbs_metrics.specs.Reading.{absolute}
use Rattle.path_lead.specs.Favour.{none}
use Rattle.margins.specs.Intervals.{Inside}

abs_hi : (f : Format) (x : Float) → hi f (absolute x) ≡ hi f x + lo f x
unfolding hi lo mag
abs_hi f nan = refl
abs_hi f (inf s) = refl
abs_hi f (fin true m e) = omega arith
abs_hi f (fin false m e) = omega arith

abs_lo : (f : Format) (x : Float) → lo f (absolute x) ≡ 0
unfolding hi lo mag
abs_lo f nan = refl
abs_lo f (inf s) = refl
abs_lo f (fin s m e) = refl

abs_num : (x : Float) → Num binary64 x → Num binary64 (absolute x)
unfolding neg
abs_num nan p = p
abs_num (inf s) p = absurd p.fin_x
abs_num (fin false m e) p = p
abs_num (fin true m e) p = num_neg p

pub abs_to : (b x : Float) → Num binary64 b → Num binary64 x → Inside (neg b) b x → T (le (absolute x) b)
abs_to b x p q h =
    let u = le→value binary64 (neg b) x (num_neg p) q h.from in
    let v = le→value binary64 x b q p h.to in
    let a = abs_hi binary64 x in
    let c = abs_lo binary64 x in
    value→le binary64 (absolute x) b (abs_num x q) p (elim (one_side binary64 x) [ inl e ↦ omega (arith, hi_neg binary64 b, lo_neg binary64 b) | inr e ↦ omega arith ])

pub abs_from : (a x : Float) → Num binary64 a → Num binary64 x → T (le a x) ⊎ T (le x (neg a)) → T (le a (absolute x))
abs_from a x p q (inl t) =
    let u = le→value binary64 a x p q t in
    value→le binary64 a (absolute x) p (abs_num x q) (omega (arith, abs_hi binary64 x, abs_lo binary64 x))
abs_from a x p q (inr t) =
    let u = le→value binary64 x (neg a) q (num_neg p) t in
    value→le binary64 a (absolute x) p (abs_num x q) (omega (arith, abs_hi binary64 x, abs_lo binary64 x, hi_neg binary64 a, lo_neg binary64 a))

-- ---- 0
pub none_num : Num binary64 none
unfolding fits
none_num = record { fin_x = tt; fits_x = tt }

pub none_hi : hi binary64 none ≡ 0
unfolding hi
none_hi = refl

pub abs_plus : (x : Float) → Num binary64 x → T (le none (absolute x))
abs_plus x p = value→le binary64 none (absolute x) none_num (abs_num x p) (omega (arith, none_hi, abs_lo binary64 x))

pub none_lo : lo binary64 none ≡ 0
unfolding lo
none_lo = refl
