use Rattle.std.proofs.Common.{◌≡◌}
use Rattle.header_mean.specs.Means.{sum_from}
use Rattle.header_mean.proofs.sum_from.Given as goal

abbrev pub invariant-loop-i : goal.invariant-loop-i
invariant-loop-i l = l.sum ≡ sum_from l.start l.tail l.part l.at l.i
