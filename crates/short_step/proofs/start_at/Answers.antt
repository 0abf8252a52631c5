use mathlib.Core.Path.{◌≡◌, refl}
use Prim.Native.Nat.{◌-◌, ◌%◌, ◌<◌}
use native.Mathlib.Omega.{arith}
use lib.ListN.{length, length-set}
use lib.Ieee.{nan}
use Rattle.trellis.specs.Run.{start_at}
use Rattle.trellis.specs.WrittenLaws.{written_none, written_more, written_whole}
use Rattle.short_step.proofs.start_at.Invariants.{value}
use Rattle.short_step.proofs.start_at.Goals as goal

pub loop-k-init : goal.loop-k-init
loop-k-init c = (omega arith, refl, written_none nan (value (c.args.state % length c.args.pm.now)) c.args.pm.now)

pub loop-k-preserved : goal.loop-k-preserved
loop-k-preserved c =
    let at = c in
    let inv = at.loop-k.invariant in
    let h : at.loop-k.k < length at.loop-k.pm = omega arith in (
      omega arith,
      simp length-set inv.1,
      written_more nan (value (at.args.state % length at.args.pm.now)) at.loop-k.k at.loop-k.pm _ h inv.2 c.start_value.ensures,
    )

pub shape_of-pm : goal.shape_of-pm
shape_of-pm c = c.loop-k.invariant.1

pub returns : goal.returns
unfolding start_at
returns c =
    let at = c in
    let a = at.args in
    let inv = at.loop-k.invariant in
    let n = length a.pm.now in
    let e : at.loop-k.k ≡ n = omega arith in
    written_whole nan (value (a.state % n)) n at.loop-k.pm inv.1 (rw e at inv).2
