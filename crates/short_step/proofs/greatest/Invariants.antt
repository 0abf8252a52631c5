-- `short_step::greatest` meets its contract. The invariant: t is the greatest of the values so far.
use mathlib.Core.Path.{◌≡◌}
use Prim.Native.Nat.{◌≤◌}
use lib.ListN.{length}
use Rattle.trellis.specs.Step.{top}
use Rattle.short_step.proofs.greatest.Given as goal

abbrev pub invariant-loop-v : goal.invariant-loop-v
invariant-loop-v l = (l.v-index ≤ length l.pm) × (l.t ≡ top l.pm l.v-index)
