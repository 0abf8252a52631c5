-- `short_encode::encode_all` meets its contract. The invariant: X and Y of the inputs below i are written, and s is the state before input i.
use mathlib.Core.Path.{◌≡◌}
use Prim.Native.Nat.{◌-◌, ◌*◌, ◌<◌, ◌≤◌}
use lib.ListN.{length}
use Rattle.short_encode.specs.EncodingLaws.{state_before}
use Rattle.short_encode.proofs.Turn.{written}
use Rattle.short_encode.proofs.encode_all.Given as goal

abbrev pub invariant-loop-i : goal.invariant-loop-i
invariant-loop-i l = (l.i-end ≡ length l.bits) × (l.i ≤ length l.bits) × (l.s < 2 * l.h) × (l.s ≡ state_before l.code l.state l.bits l.i) × (length l.out ≡ length l.initial.out) × (l.out ≡ written l.code l.state l.bits l.initial.out l.i)

abbrev pub decreases-loop-i : goal.decreases-loop-i
decreases-loop-i l = length l.bits - l.i
