use mathlib.Core.Path.{◌≡◌, refl}
use Prim.Native.Nat.{◌-◌}
use native.Mathlib.Omega.{arith}
use lib.ListN.{length-set, replicate}
use Rattle.trellis.specs.WrittenLaws.{written_none, written_more, written_whole}
use Rattle.isdbs_frame.specs.Frame.{w1}
use Rattle.isdbs_points.specs.Layout.{word_bit}
use Rattle.decode_end.proofs.known_bits.Goals as goal

pub loop-i-init : goal.loop-i-init
loop-i-init c = (omega arith, refl, written_none 0 (word_bit w1) (replicate 16 0))

pub loop-i-preserved : goal.loop-i-preserved
loop-i-preserved c =
    let at = c in
    let inv = at.loop-i.invariant in
    (omega arith, simp length-set inv.1, written_more 0 (word_bit w1) at.loop-i.i at.loop-i.bit-items _ (omega arith) inv.2 c.word_bit.ensures)

pub returns : goal.returns
returns c =
    let at = c in
    let e : at.loop-i.i ≡ 16 = omega arith in
    written_whole 0 (word_bit w1) 16 at.loop-i.bit-items at.loop-i.invariant.1 (rw e at at.loop-i.invariant.2)
