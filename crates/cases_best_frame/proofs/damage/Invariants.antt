-- `damage` is safe and ends.
use Prim.Native.Nat.{◌-◌, ◌≤◌}
use Rattle.cases_best_frame.proofs.damage.Given as goal

abbrev pub invariant-loop-k : goal.invariant-loop-k
invariant-loop-k l = l.end ≤ 38976

abbrev pub decreases-loop-k : goal.decreases-loop-k
decreases-loop-k l = l.end - l.k
