-- `viterbi_release::state_after` meets its contract. The invariant: s is the state after t steps.
use mathlib.Core.Path.{◌≡◌}
use Prim.Native.Nat.{◌-◌, ◌≤◌, ◌<◌}
use lib.ListN.{take}
use Rattle.trellis.specs.Step.{back}
use Rattle.viterbi_release.proofs.state_after.Given as goal

abbrev pub invariant-loop-t : goal.invariant-loop-t
invariant-loop-t l = (l.count ≤ l.t) × (l.t ≤ l.n) × (l.s < 64) × (l.s ≡ back 32 (take l.n l.decisions) l.n l.state (l.n - l.t))

abbrev pub decreases-loop-t : goal.decreases-loop-t
decreases-loop-t l = l.t
