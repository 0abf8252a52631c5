-- `passing` meets its contract.
use Prim.Native.Nat.{◌-◌, ◌≤◌}
use Rattle.cases_margins.proofs.passing.Given as goal

abbrev pub invariant-loop-k : goal.invariant-loop-k
invariant-loop-k l = (l.n ≤ l.k) × (l.k ≤ 25)

abbrev pub decreases-loop-k : goal.decreases-loop-k
decreases-loop-k l = 25 - l.k
