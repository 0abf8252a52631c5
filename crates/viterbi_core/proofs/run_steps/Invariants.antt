-- `viterbi_core::run_steps` meets its contract: each turn is a block of steps.
use mathlib.Core.Path.{◌≡◌}
use Prim.Native.Nat.{◌-◌, ◌≤◌}
use lib.ListN.{length}
use Rattle.viterbi_core.specs.Calls.{steps_of, Carried}
use Rattle.viterbi_core.proofs.run_steps.Given as goal

abbrev pub invariant-loop-k : goal.invariant-loop-k
invariant-loop-k l = (l.k ≤ l.n) × (length l.decisions ≡ length l.initial.decisions) × (length l.out ≡ length l.initial.out) × Carried l.traceback (steps_of l.kind l.values l.known) l.i l.k l.initial.pm l.initial.now_at l.initial.decisions l.initial.out l.now_at l.pm l.decisions l.out

abbrev pub decreases-loop-k : goal.decreases-loop-k
decreases-loop-k l = l.n - l.k
