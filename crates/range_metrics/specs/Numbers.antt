-- The numbers of the ranges, in one place, as exponents and in units: the limits of the rows give the rest. Units of path values are 512, as in crate range_paths.
use Rattle.std.specs.Prelude.{ℕ, suc, ◌+◌}
use Rattle.range_paths.specs.Bounds.{ruled_out}

-- 2 ^ 16 is 65,536, the limit of a frame part; 2 ^ 6 is 64, that of a scale
abbrev pub part_power : ℕ
part_power = 16

abbrev pub scale_power : ℕ
scale_power = 6

-- their product, 2 ^ 22: a soft value times the scale
abbrev pub soft_power : ℕ
soft_power = part_power + scale_power

-- twice that, 2 ^ 23: a branch metric
abbrev pub metric_power : ℕ
metric_power = suc soft_power

-- the same in 512
abbrev pub step_most : ℕ
step_most = 16384

-- 2 ^ 29, which is 64 steps: the best path value of a frame never falls
abbrev pub floor : ℕ
floor = 1048576

-- how far down the path values reach once the frame's steps are done: to the value of a ruled out state
abbrev pub room : ℕ
room = ruled_out
