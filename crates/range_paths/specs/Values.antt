-- Bounds as numbers of the format: what is within them lies between them in the order of floats.
use Rattle.std.specs.Prelude.{◌≡◌, refl, ℕ, ◌*◌, ◌≤◌, T, Float}
use Rattle.std.proofs.Common.{◌∙◌, mul-le-mul_right, arith}
use Rattle.std.specs.Float.{binary32}
use Rattle.std.specs.Float.Ieee.{neg, le, fits, of_bits}
use Rattle.ieee.specs.Value.{hi, lo, Num, hi_neg, lo_neg, num_neg}
use Rattle.ieee.specs.Order.{value→le}
use Rattle.ieee.specs.Rounding.{pow2}
use Rattle.range_paths.specs.Bounds.{U, Within}

-- x is 512 p - 512 n
pub record Is (x : Float) (p n : ℕ) : Type 0 where
  pub num : Num binary32 x
  pub hi_is : hi binary32 x ≡ p * U
  pub lo_is : lo binary32 x ≡ n * U

pub is_neg : {x : Float} {p n : ℕ} → Is x p n → Is (neg x) n p
is_neg {x} h = record { num = num_neg h.num; hi_is = hi_neg binary32 x ∙ h.lo_is; lo_is = lo_neg binary32 x ∙ h.hi_is }

pub nothing : Is (of_bits binary32 0) 0 0
unfolding of_bits fits hi lo pow2
nothing = record { num = record { fin_x = tt; fits_x = tt }; hi_is = refl; lo_is = refl }

pub from_least : (least x : Float) (a b d : ℕ) → Is least 0 d → a ≤ d → Within x a b → T (le least x)
from_least least x a b d l A w =
    let p = mul-le-mul_right U A in
    let h = l.hi_is in
    let k = l.lo_is in
    let wl = w.low in
    value→le binary32 least x l.num w.num (omega arith)

pub to_most : (most x : Float) (a b d : ℕ) → Is most d 0 → b ≤ d → Within x a b → T (le x most)
to_most most x a b d l B w =
    let p = mul-le-mul_right U B in
    let h = l.hi_is in
    let k = l.lo_is in
    let wh = w.high in
    value→le binary32 x most w.num l.num (omega arith)
