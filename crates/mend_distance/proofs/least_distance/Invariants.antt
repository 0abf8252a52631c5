-- `mend_distance::least_distance` meets its contract. The invariant: the table is that after t steps.
use mathlib.Core.Path.{◌≡◌}
use Prim.Native.Nat.{◌-◌, ◌%◌, ◌≤◌}
use Rattle.mend_distance.specs.Distances.{pair_at, nearest}
use Rattle.mend_distance.proofs.least_distance.Given as goal

abbrev pub invariant-loop-t : goal.invariant-loop-t
invariant-loop-t l = (l.t ≤ l.n) × (l.d ≡ nearest (l.start % 64) (pair_at l.bits) l.t)

abbrev pub decreases-loop-t : goal.decreases-loop-t
decreases-loop-t l = l.n - l.t
