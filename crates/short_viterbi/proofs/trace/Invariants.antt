-- `short_viterbi::trace` meets its contract.
use mathlib.Core.Path.{◌≡◌}
use Prim.Native.Nat.{◌-◌, ◌*◌, ◌≤◌, ◌<◌}
use lib.ListN.{length, take}
use Rattle.trellis.specs.Step.{back, input}
use Rattle.trellis.specs.WrittenLaws.{Between, Kept}
use Rattle.short_viterbi.proofs.trace.Given as goal

abbrev pub invariant-loop-t : goal.invariant-loop-t
invariant-loop-t l = (l.t ≤ l.n) × (length l.out ≡ length l.initial.out) × (l.s < 2 * l.h) × (l.s ≡ back l.h (take l.n l.decisions) l.n l.state (l.n - l.t)) × Between 0 (input l.h (take l.n l.decisions) l.n l.state) l.t l.count l.out × Kept 0 l.initial.out l.count l.out

abbrev pub decreases-loop-t : goal.decreases-loop-t
decreases-loop-t l = l.t
