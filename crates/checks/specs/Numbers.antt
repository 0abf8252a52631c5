-- Each bit pattern in a definition that a public contract reaches, as the number that document 01 or 02 writes; the ends of the margins have theirs in crate margin_ends.
-- `HasValue x s a b` says that x is finite, has the sign s (true: minus), and is a / b in size. Every law is computed.
use Rattle.std.specs.Prelude.{◌≡◌, refl, true, false, not, ◌||◌, [], ℕ, ◌+◌, ◌-◌, ◌*◌, ◌^◌, ◌<◌, ◌≤◌, pos, get_or, Float}
use Rattle.std.proofs.Common.{lit<, lit≤}
use Rattle.std.specs.Float.{nan, fin}
use Rattle.std.specs.Float.Ieee.{lt, of_bits}
use Rattle.std.specs.Float.Ieee.Exact.{HasValue}
use Rattle.trellis.specs.Lists.{upto}
use Rattle.trellis.specs.Step.{top, ruled}
use Rattle.trellis.specs.Run.{start_at, start_unknown}
use Rattle.path_greatest.specs.Hard.{soft}
use Rattle.isdb_fec.specs.Values.{path_limit, stream_limit}
use Rattle.isdbs_points.specs.Points.{zero64, one64, root64}
use Rattle.isdbs_phy.specs.DecodeRows.{part_limit, bad_scale}
use Rattle.range_calls.specs.Numbers as calls
use Rattle.range_metrics.specs.Limits as frames
use Rattle.margin_ends.specs.Ends.{eight}

-- ---- the decoder
-- "Path values start 0 at the given state (mod 64), −1,000,000 elsewhere"
pub start_here : HasValue (get_or (start_at 64 0) 0 nan) false 0 1
unfolding start_at upto of_bits
start_here = (refl, refl)

pub start_elsewhere : HasValue (get_or (start_at 64 0) 1 nan) true 1000000 1
unfolding start_at upto of_bits
start_elsewhere = (refl, refl)

-- "Unknown start sets all 64 path values to 0"
pub start_unknown_lem : HasValue (get_or (start_unknown 64) 63 nan) false 0 1
unfolding start_unknown upto of_bits
start_unknown_lem = (refl, refl)

-- "the 32 states that the bit rules out are set to −1.0e9"
pub ruled_out_lem : HasValue (get_or (ruled 32 0 []) 32 nan) true 1000000000 1
unfolding ruled upto of_bits
ruled_out_lem = (refl, refl)

-- the search for a maximum begins at the least f32
pub top_none : HasValue (top [] 0) true ((2 ^ 24 - 1) * 2 ^ 104) 1
unfolding top of_bits
top_none = (refl, refl)

-- document 02, P6: "soft pairs of +1 for a 0 bit or -1 for a 1 bit"
pub soft_zero : HasValue (soft 0) false 1 1
unfolding of_bits
soft_zero = (refl, refl)

pub soft_one : HasValue (soft 1) true 1 1
unfolding of_bits
soft_one = (refl, refl)

-- ---- the rows
-- "path value not finite or beyond 2^32"
pub path_limit_lem : HasValue path_limit false (2 ^ 32) 1
unfolding of_bits
path_limit_lem = (refl, refl)

-- "The frame part limit in refusal 7 becomes 65,536" (document 02, P8); "1,048,576 for a stream value"
pub part_limit_lem : HasValue part_limit false 65536 1
unfolding of_bits
part_limit_lem = (refl, refl)

pub stream_limit_lem : HasValue stream_limit false 1048576 1
unfolding of_bits
stream_limit_lem = (refl, refl)

-- "not above 0, or above 64": 64 is 1 * 2^6
pub scale_limit_lem : (s : Float) → bad_scale s ≡ (not (lt (fin false 0 (pos 0)) s) || lt (fin false 1 (pos 6)) s)
unfolding of_bits
scale_limit_lem s = refl

-- ---- the points
pub zero_part : HasValue zero64 false 0 1
unfolding of_bits
zero_part = (refl, refl)

pub one_part : HasValue one64 false 1 1
unfolding of_bits
one_part = (refl, refl)

-- s = 1/√2: its 53 digits over 2^53, and the f64 nearest to √(1/2), which lies between the middles to the f64 on either side:
-- ((2 d - 1) / 2^54)^2 < 1/2 < ((2 d + 1) / 2^54)^2
abbrev pub root_digits : ℕ
root_digits = 6369051672525773

pub root_part : HasValue root64 false root_digits (2 ^ 53)
unfolding of_bits
root_part = (refl, refl)

pub root_digits_lem : (2 ^ 52 ≤ root_digits) × (root_digits < 2 ^ 53)
root_digits_lem = (lit≤ tt, lit< tt)

pub root_nearest : (2 * ((2 * root_digits - 1) * (2 * root_digits - 1)) < 2 ^ 108) × (2 ^ 108 < 2 * ((2 * root_digits + 1) * (2 * root_digits + 1)))
root_nearest = (lit< tt, lit< tt)

-- ---- demand 3's scale, and the ranges that are promised
pub scale_eight : HasValue eight false 8 1
unfolding of_bits
scale_eight = (refl, refl)

-- 1.0e9 + 12 * 2^21
pub call_least : HasValue calls.least_path true 1025165824 1
unfolding of_bits
call_least = (refl, refl)

pub frame_soft : HasValue frames.soft_limit false (2 ^ 22) 1
unfolding of_bits
frame_soft = (refl, refl)

pub frame_metric : HasValue frames.metric_limit false (2 ^ 23) 1
unfolding of_bits
frame_metric = (refl, refl)

pub frame_least : HasValue frames.least_path true 1000000000 1
unfolding of_bits
frame_least = (refl, refl)

pub frame_most : HasValue frames.most_path false (2 ^ 29) 1
unfolding of_bits
frame_most = (refl, refl)
