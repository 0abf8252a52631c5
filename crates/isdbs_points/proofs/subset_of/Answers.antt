-- `subset_of` meets its contract.
use native.Mathlib.Omega.{arith}
use Rattle.isdbs_points.proofs.subset_of.Goals as goal

pub returns-then-c1_is_y : goal.returns-then-c1_is_y
returns-then-c1_is_y c = (rw c.if-c1_is_y.true, omega arith)

pub returns-else-c1_is_y : goal.returns-else-c1_is_y
returns-else-c1_is_y c = (rw c.if-c1_is_y.false, omega arith)
