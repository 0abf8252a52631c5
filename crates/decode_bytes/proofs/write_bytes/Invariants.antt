-- `write_bytes` meets its contract.
use Rattle.decode_bytes.specs.FrameByteLaws.{Written}
use Rattle.std.specs.Prelude.{take}
use Rattle.decode_bytes.proofs.write_bytes.Given as goal

abbrev pub invariant-loop-r : goal.invariant-loop-r
invariant-loop-r l = Written l.m l.start l.re l.im l.bits l.initial.bytes l.fn.p.count (take l.fn.p.count l.fn.p.runs) l.bytes l.state l.step l.done l.r-index
