-- The values of the constants of f32 that bound soft values and metrics, in units of 1/16, and what makes four metrics favour a pair.
use Rattle.std.specs.Prelude.{◌≡◌, refl, ℕ, ◌+◌, ◌*◌, ◌-◌, ◌≤◌, ◌<◌, T, get_or, Float}
use Rattle.std.proofs.Common.{sym, subst, mul-le-mul_right, arith}
use Rattle.std.specs.Float.{nan, binary32}
use Rattle.std.specs.Float.Ieee.{fits, le}
use Rattle.ieee.specs.Value.{hi, lo, Num}
use Rattle.ieee.specs.Rounding.{pow2, pow2_add}
use Rattle.trellis.specs.Lists.{upto}
use Rattle.trellis.specs.ListLaws.{get_d_upto}
use Rattle.path_lead.specs.Favour.{none, most, least, margin, Above, Favour}

-- 1/16
abbrev pub unit : ℕ
unit = pow2 145

-- x is p - n sixteenths
pub record Sixteenths (x : Float) (p n : ℕ) : Type 0 where
  pub num : Num binary32 x
  pub hi_is : hi binary32 x ≡ p * unit
  pub lo_is : lo binary32 x ≡ n * unit

pub none_is : Sixteenths none 0 0
unfolding hi lo fits pow2
none_is = record { num = record { fin_x = tt; fits_x = tt }; hi_is = refl; lo_is = refl }

pub most_is : Sixteenths most 264 0
unfolding hi lo fits pow2
most_is = record { num = record { fin_x = tt; fits_x = tt }; hi_is = refl; lo_is = refl }

pub least_is : Sixteenths least 0 264
unfolding hi lo fits pow2
least_is = record { num = record { fin_x = tt; fits_x = tt }; hi_is = refl; lo_is = refl }

-- x has p sixteenths at least, y has q - n at most
pub above_by : (x y : Float) (p q n : ℕ) → p * unit + lo binary32 x ≤ hi binary32 x → hi binary32 y + n * unit ≤ lo binary32 y + q * unit → q + 16 * margin ≤ p + n → Above margin x y
above_by x y p q n h k l =
    let e : pow2 149 ≡ 16 * unit = pow2_add 4 145 in
    omega (arith, mul-le-mul_right unit l)

-- ---- four metrics as a function of the label
module _ (m : ℕ → Float) (l : ℕ) (small : l < 4) where
  is : (k : ℕ) → k < 4 → m k ≡ get_or (upto m 4) k nan
  is k h = sym (get_d_upto m nan 4 k h)

  pub favour_upto : ((k : ℕ) → k < 4 → Num binary32 (m k)) → ((k : ℕ) → k < 4 → T (le least (m k))) → ((k : ℕ) → k < 4 → T (le (m k) (m l))) → T (le none (m l)) → T (le (m l) most) → Above margin (m l) (m (3 - l))
      → Favour (upto m 4) l
  favour_upto num from best plus to clear =
      record {
        numbers = λ k h. subst (λ (z : Float). Num binary32 z) (is k h) (num k h);
        from = λ k h. subst (λ (z : Float). T (le least z)) (is k h) (from k h);
        best = λ k h. subst (λ (z : Float). T (le z (get_or (upto m 4) l nan))) (is k h) (subst (λ (z : Float). T (le (m k) z)) (is l small) (best k h));
        plus = subst (λ (z : Float). T (le none z)) (is l small) plus;
        to = subst (λ (z : Float). T (le z most)) (is l small) to;
        clear = subst (λ (z : Float). Above margin z (get_or (upto m 4) (3 - l) nan)) (is l small) (subst (λ (z : Float). Above margin (m l) z) (is (3 - l) (omega arith)) clear);
      }
