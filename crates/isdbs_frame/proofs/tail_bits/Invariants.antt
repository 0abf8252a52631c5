-- `tail_bits` meets its contract: the bytes below i are the bits from the highest down.
use Prim.Native.Nat.{ℕ, ◌-◌, ◌/◌, ◌%◌, ◌^◌, ◌≤◌}
use Rattle.trellis.specs.WrittenLaws.{Written}
use lib.ListN.{length}
use mathlib.Core.Path.{◌≡◌}
use Rattle.isdbs_frame.proofs.tail_bits.Given as goal

-- what belongs at place i
abbrev pub bit : ℕ → ℕ → ℕ
bit tail i = tail / 2 ^ (19 - i) % 2

abbrev pub invariant-loop-i : goal.invariant-loop-i
invariant-loop-i l = (l.i ≤ 20) × (length l.out ≡ 20) × Written 0 (bit l.tail) l.i l.out

abbrev pub decreases-loop-i : goal.decreases-loop-i
decreases-loop-i l = 20 - l.i
