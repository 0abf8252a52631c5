-- `read_run` meets its contract.
use mathlib.Core.Path.{◌≡◌}
use Prim.Native.Nat.{◌-◌, ◌*◌, ◌<◌, ◌≤◌}
use lib.ListN.{length}
use Rattle.trellis.specs.Lists.{upto, laid}
use Rattle.wanted_read.specs.ReadOff.{shown}
use Rattle.wanted_read.specs.Pieces.{run_at, run_state, run_byte}
use Rattle.wanted_read.proofs.read_run.Given as goal

abbrev pub invariant-loop-j : goal.invariant-loop-j
invariant-loop-j l =
    (l.j ≤ l.n) × (l.state < 64) × (l.state ≡ run_state l.m (shown l.m l.re l.im) (run_at l.layout.combination l.start) l.prior (8 * l.j)) × (l.bytes ≡ laid (upto (run_byte l.m (shown l.m l.re l.im) (run_at l.layout.combination l.start) l.prior) l.j) l.initial.bytes) × (length l.bytes ≡ length l.initial.bytes)

abbrev pub decreases-loop-j : goal.decreases-loop-j
decreases-loop-j l = l.n - l.j
