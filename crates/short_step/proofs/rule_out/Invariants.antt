-- `short_step::rule_out` meets its contract. The invariant: the values below s are ruled, and the others are as they were.
use mathlib.Core.Path.{◌≡◌}
use mathlib.Core.Bool.{cond}
use mathlib.Core.List.{List}
use Prim.Native.Nat.{ℕ, ◌/◌, ◌%◌, ◌≤◌}
use lib.Dec.{eqb}
use lib.ListN.{length, get_or}
use lib.Ieee.{Float, nan, binary32, of_bits}
use Rattle.trellis.specs.WrittenLaws.{Written, Kept}
use Rattle.short_step.proofs.rule_out.Given as goal

abbrev pub ruled_at : ℕ → ℕ → List Float → ℕ → Float
ruled_at h b pm k = cond (eqb (k / h) (b % 2)) (get_or pm k nan) (of_bits binary32 0xce6e_6b28)

abbrev pub invariant-loop-s : goal.invariant-loop-s
invariant-loop-s l = (l.s ≤ length l.initial.pm) × (l.kept ≡ l.b % 2) × (length l.pm ≡ length l.initial.pm) × Written nan (ruled_at l.h l.b l.initial.pm) l.s l.pm × Kept nan l.initial.pm l.s l.pm
