-- `readings` is safe and ends.
use Prim.Native.Nat.{◌-◌, ◌*◌, ◌≤◌}
use Rattle.cases_short.proofs.readings.Given as goal

abbrev pub invariant-loop-seed : goal.invariant-loop-seed
invariant-loop-seed l = (l.seed ≤ 8) × (l.first ≤ 2 * l.seed)

abbrev pub decreases-loop-seed : goal.decreases-loop-seed
decreases-loop-seed l = 8 - l.seed
