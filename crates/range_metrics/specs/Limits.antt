-- The ends of the ranges.
use Rattle.std.specs.Prelude.{Float}
use Rattle.std.specs.Float.{binary32}
use Rattle.std.specs.Float.Ieee.{of_bits}

-- 2 ^ 22, the product of the limits of a part and of a scale: a soft value times the scale
abbrev pub soft_limit : Float
soft_limit = of_bits binary32 0x4a80_0000

-- twice that, 2 ^ 23: a branch metric
abbrev pub metric_limit : Float
metric_limit = of_bits binary32 0x4b00_0000

-- a path value is from -1.0e9, that of a ruled out state, to 2 ^ 29 = 64 * 2 ^ 23
abbrev pub least_path : Float
least_path = of_bits binary32 0xce6e_6b28

abbrev pub most_path : Float
most_path = of_bits binary32 0x4e00_0000
