use borrow.Author.Count.{below_none}
use Rattle.trellis.specs.WrittenLaws.{written_more}
use mathlib.Core.Path.{◌≡◌, refl}
use Prim.Native.Nat.{◌-◌}
use native.Mathlib.Omega.{arith}
use lib.ListN.{length-set}
use lib.Ieee.{nan}
use Rattle.c_answers.specs.AnswerLaws.{copied}
use Rattle.c_scales.proofs.scales_of.Invariants.{at}
use Rattle.c_scales.proofs.scales_of.Goals as goal

pub loop-i-init : goal.loop-i-init
loop-i-init c = (omega arith, refl, below_none _)

pub loop-i-preserved : goal.loop-i-preserved
loop-i-preserved c =
    let h = c in
    let from = h.args.scales.now in
    (omega arith, simp length-set h.loop-i.invariant.1, written_more nan (at from) h.loop-i.i h.loop-i.all _ (omega arith) h.loop-i.invariant.2 refl)

pub returns : goal.returns
returns c =
    let h = c in
    let from = h.args.scales.now in
    let e : h.loop-i.i ≡ 7 = omega arith in
    copied nan 7 from h.loop-i.all h.requires h.loop-i.invariant.1 (rw e at h.loop-i.invariant.2)
