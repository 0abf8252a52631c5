-- `count_strain` meets its contract.
use Rattle.decode_strain.proofs.Frames.{Done}
use Rattle.std.specs.Prelude.{length}
use Rattle.decode_strain.proofs.count_strain.Given as goal

abbrev pub invariant-loop-r : goal.invariant-loop-r
invariant-loop-r l = Done l.start l.marks l.bits l.initial.counts (length l.r-items) l.r-items l.counts l.state l.step l.done l.sum l.r-index
