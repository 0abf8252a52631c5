-- `mend_distance::distance_step` meets its contract. The invariant: after k turns the states below k have their numbers and decisions.
use mathlib.Core.Path.{◌≡◌}
use Prim.Native.Nat.{◌+◌, ◌-◌, ◌*◌, ◌≤◌}
use Rattle.mend_distance.proofs.Ways.{Stepped}
use Rattle.mend_distance.proofs.distance_step.Given as goal

abbrev pub invariant-loop-k : goal.invariant-loop-k
invariant-loop-k l = (l.n ≡ 64) × (l.k ≤ 64) × (l.old ≡ l.initial.d) × Stepped l.initial.d (2 * l.x + l.y) l.k l.d l.w

abbrev pub decreases-loop-k : goal.decreases-loop-k
decreases-loop-k l = 64 - l.k
