-- 2 ^ t as a number of a format (`two_to`), and a product with a negative constant: it turns the sign (`mul_neg`).
use Rattle.std.specs.Prelude.{◌≡◌, refl, Bool, true, false, not, cond, ◌&&◌, ℕ, suc, ◌*◌, ◌^◌, ◌≤◌, pos, eqb, leb, ltb, Float}
use Rattle.std.proofs.Common.{sym, ap, ◌∙◌, suc-le-suc, le_of_eq, lt_of_le_of_lt, lt_of_lt_of_le, mul-one, one-mul, lt→ltb, le→leb, pow_pos}
use Rattle.std.proofs.Math.Pow.{pow-lt}
use Rattle.std.specs.Float.{nan, inf, fin, Format}
use Rattle.std.specs.Float.Ieee.{prec, emax, low, up, down, unlike, round, mul, fits, neg}
use Rattle.std.specs.Float.Ieee.Fits.{and_i}
use Rattle.ieee.specs.Value.{Num}
use Rattle.ieee.specs.Rounding.{prec_pos, round_neg}

-- ---- 2 ^ t, for t up to emax: 8 is `two_to 3`
abbrev pub two_to : ℕ → Float
two_to t = fin false 1 (pos t)

pub two_to_num : (f : Format) (t : ℕ) → t ≤ emax f → Num f (two_to t)
unfolding fits
two_to_num f t h =
    record {
      fin_x = tt;
      fits_x =
          and_i (ltb 1 (2 ^ prec f) && leb 1 (2 ^ low f)) (ltb (1 * 2 ^ t) (2 ^ suc (emax f) * 1))
          (and_i (ltb 1 (2 ^ prec f)) (leb 1 (2 ^ low f)) (lt→ltb 1 (2 ^ prec f) (pow-lt (prec_pos f))) (le→leb 1 (2 ^ low f) (pow_pos (low f))))
          (lt→ltb (1 * 2 ^ t) (2 ^ suc (emax f) * 1) (lt_of_le_of_lt (le_of_eq (one-mul (2 ^ t))) (lt_of_lt_of_le (pow-lt (suc-le-suc h)) (le_of_eq (sym (mul-one (2 ^ suc (emax f))))))));
    }

-- ---- a negative constant
unlike_not : (s t : Bool) → unlike s (not t) ≡ not (unlike s t)
unlike_not false false = refl
unlike_not false true = refl
unlike_not true false = refl
unlike_not true true = refl

cond_inf : (b s t : Bool) → cond b nan (inf (unlike s (not t))) ≡ neg (cond b nan (inf (unlike s t)))
unfolding neg
cond_inf true s t = refl
cond_inf false s t = ap (λ (r : Bool). inf r) (unlike_not s t)

pub mul_neg : (f : Format) (x y : Float) → mul f x (neg y) ≡ neg (mul f x y)
unfolding mul neg
mul_neg f nan y = refl
mul_neg f (inf s) nan = refl
mul_neg f (inf s) (inf t) = ap (λ (r : Bool). inf r) (unlike_not s t)
mul_neg f (inf s) (fin t n d) = cond_inf (eqb n 0) s t
mul_neg f (fin s m e) nan = refl
mul_neg f (fin s m e) (inf t) = cond_inf (eqb m 0) s t
mul_neg f (fin s m e) (fin t n d) =
    ap (λ (r : Bool). round f r (m * up e * (n * up d)) (down e * down d)) (unlike_not s t) ∙ round_neg f (unlike s t) (m * up e * (n * up d)) (down e * down d)
