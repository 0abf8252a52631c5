-- `one_way` meets its contract.
use Prim.Native.Nat.{◌-◌, ◌≤◌}
use Rattle.cases_wanted.proofs.one_way.Given as goal

abbrev pub invariant-loop-how : goal.invariant-loop-how
invariant-loop-how l = l.how ≤ 4

abbrev pub decreases-loop-how : goal.decreases-loop-how
decreases-loop-how l = 4 - l.how
