-- `short_step::renormalise` meets its contract. The invariant: each value so far is the one before less t, and the others are as they were.
use mathlib.Core.Path.{◌≡◌}
use Prim.Native.Nat.{◌≤◌}
use lib.ListN.{length, get_or}
use lib.Ieee.{nan, binary32, sub}
use Rattle.trellis.specs.WrittenLaws.{Written, Kept}
use Rattle.short_step.proofs.renormalise.Given as goal

abbrev pub invariant-loop-v : goal.invariant-loop-v
invariant-loop-v l = (l.v-index ≤ length l.initial.pm) × (length l.pm ≡ length l.initial.pm) × Written nan (λ i. sub binary32 (get_or l.initial.pm i nan) l.t) l.v-index l.pm × Kept nan l.initial.pm l.v-index l.pm
