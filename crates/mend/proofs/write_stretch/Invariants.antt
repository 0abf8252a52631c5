-- `mend::write_stretch` meets its contract. The invariant: what is traced so far is the tail of a stretch.
use mathlib.Core.Path.{◌≡◌}
use Prim.Native.Nat.{◌-◌, ◌/◌, ◌%◌, ◌≤◌, ◌<◌}
use lib.ListN.{length}
use Rattle.mend.specs.Tail.{Tail}
use Rattle.mend.proofs.write_stretch.Given as goal

abbrev pub invariant-loop-t : goal.invariant-loop-t
invariant-loop-t l = (l.s < 64) × (length l.out ≡ length l.initial.out) × (l.t ≤ length l.bits / 2) × Tail (l.start % 64) (l.end % 64) l.bits l.initial.out l.t l.s l.out
