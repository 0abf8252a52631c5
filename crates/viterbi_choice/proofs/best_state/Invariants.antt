-- `viterbi_choice::best_state` meets its contract. The invariant: best is the best of the states below s.
use mathlib.Core.Path.{◌≡◌}
use Prim.Native.Nat.{◌-◌, ◌<◌, ◌≤◌}
use lib.ListN.{length}
use Rattle.trellis.specs.Step as trellis
use Rattle.trellis.specs.Isdb.{rule}
use Rattle.viterbi_choice.proofs.best_state.Given as goal

abbrev pub invariant-loop-s : goal.invariant-loop-s
invariant-loop-s l = (l.s-end ≡ length l.pm) × (1 ≤ l.s) × (l.s ≤ length l.pm) × (l.best < l.s) × (l.best ≡ trellis.best rule l.pm (l.s - 1))

abbrev pub decreases-loop-s : goal.decreases-loop-s
decreases-loop-s l = length l.pm - l.s
