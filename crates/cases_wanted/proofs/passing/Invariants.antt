-- `passing` meets its contract.
use Prim.Native.Nat.{◌-◌, ◌≤◌}
use Rattle.cases_wanted.proofs.passing.Given as goal

abbrev pub invariant-loop-i : goal.invariant-loop-i
invariant-loop-i l = (l.n ≤ l.i) × (l.i ≤ 25)

abbrev pub decreases-loop-i : goal.decreases-loop-i
decreases-loop-i l = 25 - l.i
