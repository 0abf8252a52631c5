use Rattle.std.proofs.Common.{◌-◌, ◌≤◌}
use Rattle.bench_demo.proofs.disturb.Given as goal

abbrev pub invariant-loop-k : goal.invariant-loop-k
invariant-loop-k l = l.k ≤ 38976

abbrev pub decreases-loop-k : goal.decreases-loop-k
decreases-loop-k l = 38976 - l.k
