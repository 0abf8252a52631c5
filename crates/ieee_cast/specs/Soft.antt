-- "`soft` rounds an f64 to the nearest f32, ties to even, small values included": `soft` is `rounded binary32` (crate ieee, Conversion), which is defined over exact values.
-- Its laws are those of `rounded`: it keeps the order (`rounded-mono`), leaves an f32 number as it is (`rounded-self`), and stays between two f32 numbers
-- (`rounded-between`, which gives finiteness too). Definitions only.
use Rattle.std.specs.Prelude.{Float}
use Rattle.std.specs.Float.{binary32}
use Rattle.ieee.specs.Conversion.{rounded}

-- the soft value of a part, before the scale
unfoldable pub soft_of : Float → Float
soft_of x = rounded binary32 x
