use mathlib.Core.Path.{◌≡◌, refl, sym, ◌∙◌}
use native.Mathlib.Omega.{arith}
use borrow.Author.Rules.{rules}
use borrow.Author.Count.{below_none}
use lib.ListN.{length-set}
use lib.Ieee.{nan}
use Rattle.trellis.specs.WrittenLaws.{written_more}
use Rattle.c_answers.specs.AnswerLaws.{copied}
use Rattle.c_decoder.proofs.put_values.Invariants.{at}
use Rattle.c_decoder.proofs.put_values.Goals as goal

pub loop-s-init : goal.loop-s-init
loop-s-init c = (omega arith, search rules, below_none _)

pub loop-s-preserved : goal.loop-s-preserved
loop-s-preserved c =
    let h = c in
    let st = h in
    let e = h.states-n.ensures in
    (omega arith, simp length-set h.loop-s.invariant.1, written_more nan (at st.args.values.now) h.loop-s.s h.loop-s.pm _ (omega arith) h.loop-s.invariant.2 refl)

pub shape_of-pm : goal.shape_of-pm
shape_of-pm c = c.loop-s.invariant.1 ∙ sym c.requires

pub returns : goal.returns
returns c =
    let h = c in
    let st = h in
    let q = h.states-n.ensures in
    let e : h.loop-s.s ≡ 64 = omega arith in
    copied nan 64 st.args.values.now h.loop-s.pm q.1 h.loop-s.invariant.1 (rw e at h.loop-s.invariant.2)
