use Rattle.std.proofs.Common.{◌-◌, ◌≤◌}
use Rattle.bench_frames.proofs.cutting.pass_frames.Given as goal

abbrev pub invariant-loop : goal.invariant-loop
invariant-loop l = l.counter ≤ l.n

abbrev pub decreases-loop : goal.decreases-loop
decreases-loop l = l.n - l.counter
