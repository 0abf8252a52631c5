-- `seen_from` is safe and ends.
use Prim.Native.Nat.{◌-◌, ◌≤◌}
use Rattle.cases_paths.proofs.seen_from.Given as goal

abbrev pub invariant-loop-inputs : goal.invariant-loop-inputs
invariant-loop-inputs l = l.inputs ≤ l.lists

abbrev pub decreases-loop-inputs : goal.decreases-loop-inputs
decreases-loop-inputs l = l.lists - l.inputs
