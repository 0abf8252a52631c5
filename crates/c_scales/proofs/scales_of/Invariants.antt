-- `scales_of` meets its contract: the first i values are copied.
use Rattle.trellis.specs.WrittenLaws.{Written}
use mathlib.Core.Path.{◌≡◌}
use mathlib.Core.List.{List}
use Prim.Native.Nat.{ℕ, ◌-◌, ◌≤◌}
use lib.ListN.{length, get_or}
use lib.Ieee.{Float, nan}
use Rattle.c_scales.proofs.scales_of.Given as goal

abbrev pub at : List Float → ℕ → Float
at l k = get_or l k nan

abbrev pub invariant-loop-i : goal.invariant-loop-i
invariant-loop-i l = (l.i ≤ 7) × (length l.all ≡ 7) × Written nan (at l.scales) l.i l.all

abbrev pub decreases-loop-i : goal.decreases-loop-i
decreases-loop-i l = 7 - l.i
