-- `main` is safe and ends.
use Prim.Native.Nat.{◌-◌, ◌≤◌}
use Rattle.cases_known_end.proofs.main.Given as goal

abbrev pub invariant-loop-wrong : goal.invariant-loop-wrong
invariant-loop-wrong l = l.wrong ≤ 6

abbrev pub decreases-loop-wrong : goal.decreases-loop-wrong
decreases-loop-wrong l = 6 - l.wrong
