-- `decoder_of` meets its contract: the first s values are copied.
use Rattle.trellis.specs.WrittenLaws.{Written}
use mathlib.Core.Path.{◌≡◌}
use mathlib.Core.List.{List}
use Prim.Native.Nat.{ℕ, ◌-◌, ◌≤◌}
use lib.ListN.{length, get_or}
use lib.Ieee.{Float, nan}
use Rattle.c_decoder.proofs.decoder_of.Given as goal

abbrev pub at : List Float → ℕ → Float
at l k = get_or l k nan

abbrev pub invariant-loop-s : goal.invariant-loop-s
invariant-loop-s l = (l.s ≤ 64) × (length l.values ≡ 64) × Written nan (at l.pm) l.s l.values

abbrev pub decreases-loop-s : goal.decreases-loop-s
decreases-loop-s l = 64 - l.s
