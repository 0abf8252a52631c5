-- The mark of a step: of each pair of coded bits, whether the step is strained where that pair was decoded.
use Rattle.std.specs.Prelude.{true, cond, List, ℕ, zero, suc, ◌+◌, ◌*◌, ◌/◌, ◌%◌, ◌^◌, get_or, Float}
use Rattle.std.specs.Float.{nan, inf}
use Rattle.std.specs.Float.Ieee.{lt}
use Rattle.trellis.specs.Lists.{bit}
use Rattle.isdbs_tables.specs.declared.Table.{Table}
use Rattle.isdbs_points.specs.Frame.{label_at}
use Rattle.isdbs_metrics.specs.Reading.{Received, metrics_at}
use Rattle.strain_marks.specs.Strain.{strained_by}

-- bit c is of the pair c = 2 X + Y
unfoldable pub mark_of : List Float → ℕ
mark_of m = bit (strained_by m 0) + 2 * bit (strained_by m 1) + 4 * bit (strained_by m 2) + 8 * bit (strained_by m 3)

-- the marks of a frame's steps
abbrev pub frame_mark : Table → Received → ℕ → ℕ
frame_mark t r k = mark_of (metrics_at t r k)

-- the greatest of the first n numbers of a list; where there is none, -∞
unfoldable pub top_of : List Float → ℕ → Float
top_of m zero = inf true
top_of m (suc n) = cond (lt (top_of m n) (get_or m n nan)) (get_or m n nan) (top_of m n)

-- what the marks ms say of step k, whose decoded bits us are encoded again from the state s: 1 where it is strained, else 0
abbrev pub marked : List ℕ → ℕ → List ℕ → ℕ → ℕ
marked ms s us k = get_or ms k 0 / 2 ^ label_at s us k % 2
