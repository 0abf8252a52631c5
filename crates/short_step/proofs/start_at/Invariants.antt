-- `short_step::start_at` meets its contract. The invariant: the values below k are those of the start.
use mathlib.Core.Path.{◌≡◌}
use mathlib.Core.Bool.{cond}
use Prim.Native.Nat.{ℕ, ◌≤◌}
use lib.Dec.{eqb}
use lib.ListN.{length}
use lib.Ieee.{Float, nan, binary32, of_bits}
use Rattle.trellis.specs.WrittenLaws.{Written}
use Rattle.short_step.proofs.start_at.Given as goal

abbrev pub value : ℕ → ℕ → Float
value start k = cond (eqb k start) (of_bits binary32 0) (of_bits binary32 0xc974_2400)

abbrev pub invariant-loop-k : goal.invariant-loop-k
invariant-loop-k l = (l.k ≤ length l.initial.pm) × (length l.pm ≡ length l.initial.pm) × Written nan (value l.start) l.k l.pm
