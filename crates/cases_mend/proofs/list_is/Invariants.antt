-- `list_is` is safe and ends.
use Prim.Native.Nat.{◌-◌, ◌≤◌}
use Rattle.cases_mend.proofs.list_is.Given as goal

abbrev pub invariant-loop-k : goal.invariant-loop-k
invariant-loop-k l = (l.k ≤ 14) × (l.at ≤ 4)

abbrev pub decreases-loop-k : goal.decreases-loop-k
decreases-loop-k l = 14 - l.k
