-- `read_byte` meets its contract.
use mathlib.Core.Path.{◌≡◌}
use Prim.Native.Nat.{◌-◌, ◌<◌, ◌≤◌}
use Rattle.isdbs_metrics.specs.Steps.{digits}
use Rattle.wanted_read.specs.ReadOff.{shown}
use Rattle.wanted_read.specs.Pieces.{run_at, state_after, bit_after}
use Rattle.wanted_read.proofs.read_byte.Given as goal

abbrev pub invariant-loop-i : goal.invariant-loop-i
invariant-loop-i l =
    (l.i ≤ 8) × (l.byte ≡ digits (bit_after l.m (shown l.m l.re l.im) (run_at l.layout.combination l.start) l.prior l.from) l.i) × (l.state ≡ state_after l.m (shown l.m l.re l.im) (run_at l.layout.combination l.start) l.prior l.from l.i) × (l.state < 64)

abbrev pub decreases-loop-i : goal.decreases-loop-i
decreases-loop-i l = 8 - l.i
