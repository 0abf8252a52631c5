-- `one_frame` meets its contract.
use Rattle.std.proofs.Common.{◌-◌, ◌≤◌}
use Rattle.cases_judge.proofs.one_frame.Given as goal

abbrev pub invariant-loop-i : goal.invariant-loop-i
invariant-loop-i l = (l.right ≤ l.i) × (l.i ≤ 22)

abbrev pub decreases-loop-i : goal.decreases-loop-i
decreases-loop-i l = 22 - l.i
