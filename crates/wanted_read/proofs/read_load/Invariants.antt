-- `read_load` meets its contract.
use Prim.Native.Nat.{◌-◌}
use Rattle.wanted_read.proofs.Frames.{LoadRead}
use Rattle.wanted_read.proofs.read_load.Given as goal

abbrev pub invariant-loop-i : goal.invariant-loop-i
invariant-loop-i l = LoadRead l.p l.m l.prior l.re l.im l.initial.bytes l.count l.bytes l.state l.done l.i

abbrev pub decreases-loop-i : goal.decreases-loop-i
decreases-loop-i l = l.count - l.i
