-- `viterbi_release::trace_all` meets its contract. The invariant: s is the state after t steps, the bits from t on are in their places, and the
-- places from n on are as they were.
use mathlib.Core.Path.{◌≡◌}
use Prim.Native.Nat.{◌-◌, ◌≤◌, ◌<◌}
use lib.ListN.{length, take}
use Rattle.trellis.specs.Step.{back, input}
use Rattle.trellis.specs.WrittenLaws.{Between, Kept}
use Rattle.viterbi_release.proofs.trace_all.Given as goal

abbrev pub invariant-loop-t : goal.invariant-loop-t
invariant-loop-t l = (l.t ≤ l.n) × (length l.out ≡ length l.initial.out) × (l.s < 64) × (l.s ≡ back 32 (take l.n l.decisions) l.n l.state (l.n - l.t)) × Between 0 (input 32 (take l.n l.decisions) l.n l.state) l.t l.n l.out × Kept 0 l.initial.out l.n l.out

abbrev pub decreases-loop-t : goal.decreases-loop-t
decreases-loop-t l = l.t
