-- Each end of a margin as its fraction. `HasValue x s a b` says that x is finite, has the sign s (true: minus), and is a / b in size.
use Rattle.std.specs.Prelude.{refl, false}
use Rattle.std.specs.Float.Ieee.{of_bits}
use Rattle.std.specs.Float.Ieee.Exact.{HasValue}
use Rattle.margin_ends.specs.Ends.{near0, low1, high1, low_root, high_root}

-- ---- the fractions
pub near0_is : HasValue near0 false 1 32
unfolding of_bits
near0_is = (refl, refl)

pub low1_is : HasValue low1 false 31 32
unfolding of_bits
low1_is = (refl, refl)

pub high1_is : HasValue high1 false 33 32
unfolding of_bits
high1_is = (refl, refl)

pub low_root_is : HasValue low_root false 87 128
unfolding of_bits
low_root_is = (refl, refl)

pub high_root_is : HasValue high_root false 94 128
unfolding of_bits
high_root_is = (refl, refl)
