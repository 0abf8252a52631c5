-- `one_table` meets its contract.
use Prim.Native.Nat.{◌-◌, ◌≤◌}
use Rattle.cases_wanted.proofs.one_table.Given as goal

abbrev pub invariant-loop-way : goal.invariant-loop-way
invariant-loop-way l = l.way ≤ 16

abbrev pub decreases-loop-way : goal.decreases-loop-way
decreases-loop-way l = 16 - l.way
