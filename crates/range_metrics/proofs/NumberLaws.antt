-- The numbers of the ranges belong together.
use Rattle.std.specs.Prelude.{◌≡◌, refl, ◌+◌, ◌*◌, ◌≤◌}
use Rattle.std.proofs.Common.{lit≤}
use Rattle.std.specs.Float.{binary32}
use Rattle.std.specs.Float.Ieee.{fits, low, of_bits}
use Rattle.ieee.specs.Value.{mag, hi, lo}
use Rattle.ieee.specs.Rounding.{pow2, pow2_add}
use Rattle.ieee.proofs.Constants.{two_to}
use Rattle.range_paths.specs.Bounds.{U, ruled_out}
use Rattle.range_paths.specs.Values.{Is}
use Rattle.range_paths.specs.Invariant.{Limits}
use Rattle.isdbs_rows.specs.DecodeRows.{part_limit, scale_limit}
use Rattle.range_metrics.specs.Limits.{soft_limit, metric_limit, least_path, most_path}
use Rattle.range_metrics.specs.Numbers.{part_power, scale_power, soft_power, metric_power, step_most, floor, room}

-- ---- that they belong together
pub part_limit_lem : part_limit ≡ two_to part_power
unfolding of_bits
part_limit_lem = refl

pub scale_limit_lem : scale_limit ≡ two_to scale_power
unfolding of_bits
scale_limit_lem = refl

pub soft_limit_lem : soft_limit ≡ two_to soft_power
unfolding of_bits
soft_limit_lem = refl

pub metric_limit_lem : metric_limit ≡ two_to metric_power
unfolding of_bits
metric_limit_lem = refl

pub step_most_lem : pow2 (metric_power + low binary32) ≡ step_most * U
step_most_lem = pow2_add 14 158

pub path_limits : Limits step_most 0 floor
path_limits = record { wide = lit≤ tt; start = lit≤ tt; fits = lit≤ tt }

-- once the frame's steps are done nothing is added
pub known_limits : Limits 0 0 room
known_limits = record { wide = lit≤ tt; start = lit≤ tt; fits = lit≤ tt }

-- -1.0e9 is within them
pub room_enough : ruled_out ≤ room
room_enough = lit≤ tt

-- how far down the frame's steps lead is above -1.0e9
pub under_ruled : floor + 12 * step_most ≤ room
under_ruled = lit≤ tt

pub least_path_lem : Is least_path 0 room
unfolding of_bits fits hi lo mag pow2
least_path_lem = record { num = record { fin_x = tt; fits_x = tt }; hi_is = refl; lo_is = refl }

pub most_path_lem : Is most_path (64 * step_most) 0
unfolding of_bits fits hi lo mag pow2
most_path_lem = record { num = record { fin_x = tt; fits_x = tt }; hi_is = refl; lo_is = refl }
