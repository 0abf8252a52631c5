-- `short_best::start_unknown` meets its contract. The invariant: the values so far are 0.
use mathlib.Core.Path.{◌≡◌}
use Prim.Native.Nat.{ℕ, ◌≤◌}
use lib.ListN.{length}
use lib.Ieee.{Float, nan, binary32, of_bits}
use Rattle.trellis.specs.WrittenLaws.{Written}
use Rattle.short_best.proofs.start_unknown.Given as goal

abbrev pub value : ℕ → Float
value k = of_bits binary32 0

abbrev pub invariant-loop-v : goal.invariant-loop-v
invariant-loop-v l = (l.v-index ≤ length l.initial.pm) × (length l.pm ≡ length l.initial.pm) × Written nan value l.v-index l.pm
