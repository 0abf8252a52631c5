-- `known_bits` meets its contract: the bytes below i are the bits of W1.
use mathlib.Core.Path.{◌≡◌}
use Prim.Native.Nat.{◌≤◌}
use lib.ListN.{length}
use Rattle.trellis.specs.WrittenLaws.{Written}
use Rattle.isdbs_frame.specs.Frame.{w1}
use Rattle.isdbs_points.specs.Layout.{word_bit}
use Rattle.decode_end.proofs.known_bits.Given as goal

abbrev pub invariant-loop-i : goal.invariant-loop-i
invariant-loop-i l = (l.i ≤ 16) × (length l.bit-items ≡ 16) × Written 0 (word_bit w1) l.i l.bit-items
