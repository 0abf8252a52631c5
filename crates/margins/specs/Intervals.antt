-- Intervals of floats, inclusive, through the operations of the demapper. The ends of a result are the same operations on the ends, so a bound at closed ends is computed.
-- A part need only lie between finite ends; results of operations fit their format.
use Rattle.std.specs.Prelude.{Bool, false, cond, ◌-◌, T, Float}
use Rattle.std.specs.Float.{nan, inf, fin, Format, binary32}
use Rattle.std.specs.Float.Ieee.{mul, le}
use Rattle.ieee.specs.Value.{Num}
use Rattle.ieee_cast.specs.Soft.{soft_of}
use Rattle.margin_ends.specs.Ends.{eight}

pub record Inside (a b x : Float) : Type 0 where
  pub from : T (le a x)
  pub to : T (le x b)

-- ---- products with a constant of either sign
abbrev pub minus : Float → Bool
minus nan = false
minus (inf s) = s
minus (fin s m e) = s

abbrev pub mul_low : Format → Float → Float → Float → Float
mul_low f c a b = cond (minus c) (mul f b c) (mul f a c)

abbrev pub mul_high : Format → Float → Float → Float → Float
mul_high f c a b = cond (minus c) (mul f a c) (mul f b c)

-- ---- the soft value at scale 8
abbrev pub scaled_up : Float → Float
scaled_up x = mul binary32 (soft_of x) eight

-- the soft values of a and b lie between A and B
pub record Scaled (A B z : Float) : Type 0 where
  pub num : Num binary32 z
  pub inside : Inside A B z
