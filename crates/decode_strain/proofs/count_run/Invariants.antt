-- `count_run` meets its contract.
use Prim.Native.Nat.{◌-◌, ◌≤◌}
use mathlib.Core.Path.{◌≡◌}
use lib.ListN.{length}
use Rattle.decode_strain.specs.Pieces.{RunCounted}
use Rattle.decode_strain.proofs.Slots.{run_count}
use Rattle.decode_strain.proofs.count_run.Given as goal

abbrev pub invariant-loop-v : goal.invariant-loop-v
invariant-loop-v l = (l.v ≤ l.n) × (length l.counts ≡ length l.initial.counts) × RunCounted l.w l.marks l.bits l.start l.v (run_count l.sum l.state) l.initial.counts l.counts

abbrev pub decreases-loop-v : goal.decreases-loop-v
decreases-loop-v l = l.n - l.v
