use Rattle.best_metrics.proofs.FrameMetrics.{Written}
use Prim.Native.Nat.{◌-◌}
use Rattle.best_metrics.proofs.frame_metrics.Given as goal

abbrev pub invariant-loop-i : goal.invariant-loop-i
invariant-loop-i l = Written l.m l.scales l.re l.im l.initial.metrics l.count l.list l.metrics l.step l.i

abbrev pub decreases-loop-i : goal.decreases-loop-i
decreases-loop-i l = l.count - l.i
