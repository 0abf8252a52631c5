-- `read_runs` meets its contract.
use Rattle.decode_all.proofs.FrameSteps.{Read}
use Rattle.decode_all.proofs.FrameMarks.{Marked}
use Rattle.std.specs.Prelude.{take}
use Rattle.decode_all.proofs.read_runs.Given as goal

abbrev pub invariant-loop-r : goal.invariant-loop-r
invariant-loop-r l = Read l.m l.scales l.initial.pm l.re l.im l.initial.decisions l.initial.bits l.fn.p.count (take l.fn.p.count l.fn.p.runs) l.pm l.decisions l.bits l.at l.step l.r-index × Marked l.m l.scales l.re l.im l.initial.marks l.fn.p.count (take l.fn.p.count l.fn.p.runs) l.marks l.step
