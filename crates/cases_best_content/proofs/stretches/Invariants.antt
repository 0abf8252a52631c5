-- `stretches` is safe and ends.
use Prim.Native.Nat.{◌-◌, ◌≤◌}
use Rattle.cases_best_content.proofs.stretches.Given as goal

abbrev pub invariant-loop-seed : goal.invariant-loop-seed
invariant-loop-seed l = l.seed ≤ l.count

abbrev pub decreases-loop-seed : goal.decreases-loop-seed
decreases-loop-seed l = l.count - l.seed
