use borrow.Author.Count.{below_none}
use Rattle.trellis.specs.WrittenLaws.{written_more}
use mathlib.Core.Path.{◌≡◌, refl}
use native.Mathlib.Omega.{arith}
use lib.ListN.{length-set}
use lib.Ieee.{nan}
use Rattle.c_answers.specs.AnswerLaws.{copied}
use Rattle.c_decoder.proofs.decoder_of.Invariants.{at}
use Rattle.c_decoder.proofs.decoder_of.Goals as goal

pub loop-s-init : goal.loop-s-init
loop-s-init c = (omega arith, refl, below_none _)

pub loop-s-preserved : goal.loop-s-preserved
loop-s-preserved c =
    let h = c in
    let pm = h.args.pm.now in
    (omega arith, simp length-set h.loop-s.invariant.1, written_more nan (at pm) h.loop-s.s h.loop-s.values _ (omega arith) h.loop-s.invariant.2 refl)

pub returns : goal.returns
returns c =
    let h = c in
    let pm = h.args.pm.now in
    let e : h.loop-s.s ≡ 64 = omega arith in
    rw (copied nan 64 pm h.loop-s.values h.requires h.loop-s.invariant.1 (rw e at h.loop-s.invariant.2))
