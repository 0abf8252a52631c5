use Rattle.std.proofs.Common.{◌≡◌, ◌*◌, ◌≤◌}
use Rattle.header_sync.specs.Signs.{marks}
use Rattle.header_sync.proofs.marks_of.Given as goal

abbrev pub invariant-loop-i : goal.invariant-loop-i
invariant-loop-i l = (l.sum ≡ marks l.tail l.part l.at l.i) × (l.sum ≤ 2 * l.i)
