-- The bounds of a decoder's stream values and path values, in one place. All but the stream's limit itself are multiples of 512, which is the unit of
-- crate range_paths.
use Rattle.std.specs.Prelude.{◌≡◌, refl, ◌+◌, ◌*◌, ◌≤◌}
use Rattle.std.proofs.Common.{lit≤}
use Rattle.std.specs.Float.Ieee.{fits, of_bits}
use Rattle.ieee.specs.Value.{hi, lo}
use Rattle.ieee.specs.Rounding.{pow2}
use Rattle.range_paths.specs.Bounds.{ruled_out}
use Rattle.range_paths.specs.Values.{Is}
use Rattle.range_paths.specs.Invariant.{Limits}
use Rattle.isdb_fec.specs.Values.{path_limit, stream_limit}
use Rattle.range_calls.specs.Numbers.{deepest, least_path, path_most, room, step_most, stream_most}

pub stream_limits : Limits step_most step_most room
stream_limits = record { wide = lit≤ tt; start = lit≤ tt; fits = lit≤ tt }

-- -1.0e9 is within them
pub room_enough : ruled_out ≤ room
room_enough = lit≤ tt

pub deepest_is : room + 12 * step_most ≡ deepest
deepest_is = refl

-- ---- the limits in units
pub path_limit_lem : Is path_limit path_most 0
unfolding of_bits fits hi lo pow2
path_limit_lem = record { num = record { fin_x = tt; fits_x = tt }; hi_is = refl; lo_is = refl }

pub stream_limit_lem : Is stream_limit stream_most 0
unfolding of_bits fits hi lo pow2
stream_limit_lem = record { num = record { fin_x = tt; fits_x = tt }; hi_is = refl; lo_is = refl }

pub least_path_lem : Is least_path 0 deepest
unfolding of_bits fits hi lo pow2
least_path_lem = record { num = record { fin_x = tt; fits_x = tt }; hi_is = refl; lo_is = refl }
