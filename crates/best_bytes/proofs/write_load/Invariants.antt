-- `write_load` meets its contract.
use Rattle.best_bytes.proofs.BytesWritten.{Written}
use Prim.Native.Nat.{◌-◌}
use Rattle.best_bytes.proofs.write_load.Given as goal

abbrev pub invariant-loop-i : goal.invariant-loop-i
invariant-loop-i l = Written l.bits l.uncoded l.initial.bytes l.count l.list l.bytes l.step l.done l.i

abbrev pub decreases-loop-i : goal.decreases-loop-i
decreases-loop-i l = l.count - l.i
