-- `all_ends` is safe and ends.
use Prim.Native.Nat.{◌-◌, ◌≤◌}
use Rattle.cases_mend.proofs.all_ends.Given as goal

abbrev pub invariant-loop-end : goal.invariant-loop-end
invariant-loop-end l = l.end ≤ 64

abbrev pub decreases-loop-end : goal.decreases-loop-end
decreases-loop-end l = 64 - l.end
