-- `put_values` meets its contract: the first s values are copied.
use mathlib.Core.Path.{◌≡◌}
use mathlib.Core.List.{List}
use Prim.Native.Nat.{ℕ, ◌-◌, ◌≤◌}
use lib.ListN.{length, get_or}
use lib.Ieee.{Float, nan}
use Rattle.trellis.specs.WrittenLaws.{Written}
use Rattle.c_decoder.proofs.put_values.Given as goal

abbrev pub at : List Float → ℕ → Float
at l k = get_or l k nan

abbrev pub invariant-loop-s : goal.invariant-loop-s
invariant-loop-s l = (l.s ≤ l.n) × (length l.pm ≡ 64) × Written nan (at l.values) l.s l.pm

abbrev pub decreases-loop-s : goal.decreases-loop-s
decreases-loop-s l = l.n - l.s
