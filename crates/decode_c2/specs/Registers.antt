-- The points of C2 = 0 by the register of a step.
use Rattle.std.specs.Prelude.{◌≡◌, Bool, List, ℕ, ◌/◌, ◌%◌, ◌<◌, get_or, Float}
use Rattle.std.specs.Float.{nan}
use Rattle.isdbs_points.specs.declared.Cplx.{Cplx}
use Rattle.isdbs_points.specs.Points.{psk8_of, subset}
use Rattle.trellis.specs.Isdb

-- that of the step with the register 64 u + state; y says whether C1 is Y
abbrev pub register_point : Bool → ℕ → Cplx
register_point y k = psk8_of (subset y (Isdb.labels (k / 64) (k % 64)))

-- tables that have their parts
pub record ByRegister (y : Bool) (xs ys : List Float) : Type 0 where
  pub re_at : (k : ℕ) → k < 128 → get_or xs k nan ≡ (register_point y k).re
  pub im_at : (k : ℕ) → k < 128 → get_or ys k nan ≡ (register_point y k).im
