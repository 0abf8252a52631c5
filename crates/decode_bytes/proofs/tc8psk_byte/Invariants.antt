-- `tc8psk_byte` meets its contract.
use Prim.Native.Nat.{◌-◌}
use Rattle.isdbs_metrics.specs.DigitLaws.{Taken}
use Rattle.decode_bytes.proofs.tc8psk_byte.Given as goal

abbrev pub invariant-loop-i : goal.invariant-loop-i
invariant-loop-i l = Taken l.re l.im l.m l.start l.bits l.byte l.state l.i

abbrev pub decreases-loop-i : goal.decreases-loop-i
decreases-loop-i l = 4 - l.i
