-- `search` is safe and ends.
use Prim.Native.Nat.{◌-◌}
use Rattle.cases_best_content.proofs.search.Given as goal

abbrev pub invariant-loop-start : goal.invariant-loop-start
invariant-loop-start l = Unit {0}

abbrev pub decreases-loop-start : goal.decreases-loop-start
decreases-loop-start l = l.to - l.start
