-- The bounds of a decoder's stream values and path values, in one place. All but the stream's limit itself are multiples of 512, which is the unit of
-- crate range_paths.
use Rattle.std.specs.Prelude.{ℕ, Float}
use Rattle.std.specs.Float.{binary32}
use Rattle.std.specs.Float.Ieee.{of_bits}
use Rattle.range_paths.specs.Bounds.{ruled_out}

-- 1,048,576, "for a stream value"
abbrev pub stream_most : ℕ
stream_most = 2048

-- 2,097,152: what a step adds at most, two soft values or one metric
abbrev pub step_most : ℕ
step_most = 4096

-- how far down the bounds between calls reach: to the value of a ruled out state
abbrev pub room : ℕ
room = ruled_out

-- 1,025,165,824 = 1.0e9 + 12 * 2,097,152: how far below 0 a path value can be
abbrev pub deepest : ℕ
deepest = 2002277

-- the same as a number of the format
abbrev pub least_path : Float
least_path = of_bits binary32 0xce74_6b28

-- 4,294,967,296 = 2^32: "path value not finite or beyond 2^32"
abbrev pub path_most : ℕ
path_most = 8388608
