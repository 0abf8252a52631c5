-- `pack_tc8psk` meets its contract.
use Rattle.decode_bytes.specs.PackingLaws.{Packing}
use Rattle.decode_c2.specs.Registers.{ByRegister}
use Prim.Native.Nat.{◌-◌}
use Rattle.decode_bytes.proofs.pack_tc8psk.Given as goal

abbrev pub invariant-loop-j : goal.invariant-loop-j
invariant-loop-j l = ByRegister l.m.tc8psk_c1_is_y l.xs l.ys × Packing l.re l.im l.m l.bits l.n l.start l.initial.bytes l.bytes l.state l.j

abbrev pub decreases-loop-j : goal.decreases-loop-j
decreases-loop-j l = l.n - l.j
