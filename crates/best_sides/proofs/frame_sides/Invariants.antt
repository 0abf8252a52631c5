-- `frame_sides` meets its contract.
use Rattle.best_sides.proofs.SidesWritten.{Written}
use Prim.Native.Nat.{◌-◌}
use Rattle.best_sides.proofs.frame_sides.Given as goal

abbrev pub invariant-loop-i : goal.invariant-loop-i
invariant-loop-i l = Written l.m l.re l.im l.initial.sides l.count l.list l.sides l.step l.i

abbrev pub decreases-loop-i : goal.decreases-loop-i
decreases-loop-i l = l.count - l.i
