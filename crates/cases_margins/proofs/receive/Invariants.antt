-- `receive` is safe and ends.
use Prim.Native.Nat.{◌-◌, ◌≤◌, ◌+◌}
use Rattle.cases_margins.proofs.receive.Given as goal

abbrev pub invariant-loop-k : goal.invariant-loop-k
invariant-loop-k l = (l.n ≤ l.k + l.k) × (l.k ≤ 38976)

abbrev pub decreases-loop-k : goal.decreases-loop-k
decreases-loop-k l = 38976 - l.k
