use Rattle.best_bytes.proofs.MarksWritten.{Written}
use Prim.Native.Nat.{◌-◌}
use Rattle.best_bytes.proofs.slot_marks.Given as goal

abbrev pub invariant-loop-i : goal.invariant-loop-i
invariant-loop-i l = Written l.initial.marks l.count l.list l.marks l.step l.done l.i

abbrev pub decreases-loop-i : goal.decreases-loop-i
decreases-loop-i l = l.count - l.i
