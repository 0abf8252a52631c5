-- Whole numbers, and multiples of any power of two: their sums are exact where the format has the digits, up to 2 ^ prec of them (`add_on`, `sub_on`).
-- `On f x j p n`: x is p - n times 2 ^ j units. A whole number is on 2 ^ low units (`of_int_on`).
use Rattle.std.specs.Prelude.{◌≡◌, ℕ, suc, ◌-◌, ◌*◌, ℤ, pos, negsuc, Float}
use Rattle.std.specs.Float.{Format}
use Rattle.ieee.specs.Value.{hi, lo, Num}
use Rattle.ieee.specs.Rounding.{pow2}

pub record On (f : Format) (x : Float) (j p n : ℕ) : Type 0 where
  pub num : Num f x
  pub hi_is : hi f x ≡ p * pow2 j
  pub lo_is : lo f x ≡ n * pow2 j

-- ---- an integer as a float
abbrev pub hi_z : ℤ → ℕ
hi_z (pos n) = n
hi_z (negsuc n) = 0

abbrev pub lo_z : ℤ → ℕ
lo_z (pos n) = 0
lo_z (negsuc n) = suc n
