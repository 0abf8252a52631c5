use Prim.Native.Nat.{◌-◌}
use Rattle.trellis.specs.WrittenLaws.{written_none, written_more, written_whole}
use lib.ListN.{length-set, replicate}
use mathlib.Core.Path.{◌≡◌, refl}
use native.Mathlib.Omega.{arith}
use Rattle.isdbs_frame.proofs.tail_bits.Invariants.{bit}
use Rattle.isdbs_frame.proofs.tail_bits.Goals as goal

pub loop-i-init : goal.loop-i-init
loop-i-init c = (omega arith, refl, written_none 0 (bit c.args.tail) (replicate 20 0))

pub loop-i-preserved : goal.loop-i-preserved
loop-i-preserved c =
    let at = c in
    let inv = at.loop-i.invariant in (
      omega arith,
      simp length-set inv.1,
      written_more 0 (bit at.args.tail) at.loop-i.i at.loop-i.out _ (omega arith) inv.2 refl,
    )

pub returns : goal.returns
returns c =
    let at = c in
    let e : at.loop-i.i ≡ 20 = omega arith in
    written_whole 0 (bit at.args.tail) 20 at.loop-i.out at.loop-i.invariant.1 (rw e at at.loop-i.invariant.2)
