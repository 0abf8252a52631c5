-- The metrics of a step's branches in rows.
use Rattle.std.specs.Prelude.{List, ℕ, ◌+◌, ◌*◌, get_or, Float}
use Rattle.std.specs.Float.{nan}
use Rattle.trellis.specs.Lists.{upto}
use Rattle.trellis.specs.Isdb

-- the metric of the branch from the state 2 j + b on the input u
abbrev pub branch_metric : List Float → ℕ → ℕ → ℕ → Float
branch_metric m u b j = get_or m (Isdb.labels u (2 * j + b)) nan

-- those of all j
unfoldable pub metric_row : List Float → ℕ → ℕ → List Float
metric_row m u b = upto (branch_metric m u b) Isdb.half
