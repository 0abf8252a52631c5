-- `agreeing` meets its contract.
use Prim.Native.Nat.{◌-◌, ◌≤◌}
use Rattle.cases_lib.proofs.agreeing.Given as goal

abbrev pub invariant-loop-i : goal.invariant-loop-i
invariant-loop-i g l = (l.agree ≤ l.i) × (l.i ≤ l.lines)

abbrev pub decreases-loop-i : goal.decreases-loop-i
decreases-loop-i g l = l.lines - l.i
