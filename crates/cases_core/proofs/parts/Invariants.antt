-- `parts` is safe and ends.
use Prim.Native.Nat.{◌-◌, ◌≤◌}
use Rattle.cases_core.proofs.parts.Given as goal

abbrev pub invariant-loop-k : goal.invariant-loop-k
invariant-loop-k l = l.k ≤ 10

abbrev pub decreases-loop-k : goal.decreases-loop-k
decreases-loop-k l = 10 - l.k
