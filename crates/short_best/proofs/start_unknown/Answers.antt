use mathlib.Core.Path.{◌≡◌, refl}
use Prim.Native.Nat.{◌-◌, ◌<◌}
use native.Mathlib.Omega.{arith}
use lib.ListN.{length, length-set}
use lib.Ieee.{nan}
use Rattle.trellis.specs.Run.{start_unknown}
use Rattle.trellis.specs.WrittenLaws.{written_none, written_more, written_whole}
use Rattle.short_best.proofs.start_unknown.Invariants.{value}
use Rattle.short_best.proofs.start_unknown.Goals as goal

pub loop-v-init : goal.loop-v-init
loop-v-init c = (omega arith, refl, written_none nan value c.args.pm.now)

pub loop-v-preserved : goal.loop-v-preserved
loop-v-preserved c =
    let at = c in
    let inv = at.loop-v.invariant in
    let h : at.loop-v.v-index < length at.loop-v.pm = omega arith in
    (omega arith, simp length-set inv.1, written_more nan value at.loop-v.v-index at.loop-v.pm _ h inv.2 refl)

pub shape_of-pm : goal.shape_of-pm
shape_of-pm c = c.loop-v.invariant.1

pub returns : goal.returns
unfolding start_unknown
returns c =
    let at = c in
    let inv = at.loop-v.invariant in
    let n = length at.args.pm.now in
    let e : at.loop-v.v-index ≡ n = omega arith in
    written_whole nan value n at.loop-v.pm inv.1 (rw e at inv).2
