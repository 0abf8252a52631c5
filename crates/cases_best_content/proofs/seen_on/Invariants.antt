-- `seen_on` is safe and ends.
use Prim.Native.Nat.{◌-◌, ◌≤◌}
use Rattle.cases_best_content.proofs.seen_on.Given as goal

abbrev pub invariant-loop-uncoded : goal.invariant-loop-uncoded
invariant-loop-uncoded l = l.uncoded ≤ l.end

abbrev pub decreases-loop-uncoded : goal.decreases-loop-uncoded
decreases-loop-uncoded l = l.end - l.uncoded
