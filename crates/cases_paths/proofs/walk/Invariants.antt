-- `walk` is safe and ends.
use Prim.Native.Nat.{◌-◌, ◌≤◌, ◌<◌}
use Rattle.cases_paths.proofs.walk.Given as goal

abbrev pub invariant-loop-k : goal.invariant-loop-k
invariant-loop-k l = (l.k ≤ l.n) × (l.sum < 65536)

abbrev pub decreases-loop-k : goal.decreases-loop-k
decreases-loop-k l = l.n - l.k
