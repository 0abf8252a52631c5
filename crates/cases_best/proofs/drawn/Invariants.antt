-- `drawn` is safe and ends.
use Prim.Native.Nat.{◌-◌, ◌≤◌}
use Rattle.cases_best.proofs.drawn.Given as goal

abbrev pub invariant-loop-seed : goal.invariant-loop-seed
invariant-loop-seed l = l.seed ≤ 4

abbrev pub decreases-loop-seed : goal.decreases-loop-seed
decreases-loop-seed l = 4 - l.seed
