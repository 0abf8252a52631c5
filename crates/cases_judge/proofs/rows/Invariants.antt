-- `rows` meets its contract.
use Rattle.std.proofs.Common.{◌-◌, ◌≤◌}
use Rattle.cases_judge.proofs.rows.Given as goal

abbrev pub invariant-loop-i : goal.invariant-loop-i
invariant-loop-i l = (l.right ≤ l.i) × (l.i ≤ 17)

abbrev pub decreases-loop-i : goal.decreases-loop-i
decreases-loop-i l = 17 - l.i
