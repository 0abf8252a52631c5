-- `mend::list_changes` meets its contract. The invariant: the changed positions below i are at the front of the list.
use mathlib.Core.Path.{◌≡◌}
use Prim.Native.Nat.{◌-◌, ◌≤◌}
use lib.ListN.{length}
use Rattle.trellis.specs.Lists.{laid}
use Rattle.mend.proofs.Positions.{passed}
use Rattle.mend.proofs.list_changes.Given as goal

abbrev pub invariant-loop-i : goal.invariant-loop-i
invariant-loop-i l = (l.i ≤ length l.bits) × (l.count ≡ length (passed l.mended l.bits l.i)) × (l.list ≡ laid (passed l.mended l.bits l.i) l.initial.list)

abbrev pub decreases-loop-i : goal.decreases-loop-i
decreases-loop-i l = length l.bits - l.i
