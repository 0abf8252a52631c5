use mathlib.Core.Path.{◌≡◌, refl}
use Prim.Native.Nat.{◌-◌}
use native.Mathlib.Omega.{arith}
use lib.ListN.{replicate}
use Rattle.isdbt_table.proofs.Compiled.{bit_of, compiles, in_range}
use Rattle.trellis.specs.Lists.{upto, laid}
use Rattle.isdbt_table.specs.WrittenLaws.{written_none, written_next}
use Rattle.isdbt_table.proofs.Puncturing.new.Goals as goal

pub loop-i-init : goal.loop-i-init
loop-i-init c = (omega arith, written_none _ _)

pub mother_bit-requires : goal.mother_bit-requires
mother_bit-requires c =
    let at = c in
    let read = at in
    in_range read.args.rate read.puncture_spec-s.result at.loop-i.i read.puncture_spec-s.ensures (omega arith)

pub loop-i-preserved : goal.loop-i-preserved
loop-i-preserved c = (omega arith, written_next _ _ _ _ _ c.loop-i.invariant.1 (omega arith) c.mother_bit.ensures)

pub returns : goal.returns
returns c =
    let at = c in
    let read = at in
    let e : at.loop-i.i ≡ 8 = omega arith in
    let whole : at.loop-i.order ≡ laid (upto (bit_of read.puncture_spec-s.result) 8) (replicate 8 0) = rw e at at.loop-i.invariant.1.front in
    rw (whole, read.puncture_spec-s.ensures, compiles read.args.rate) refl
