-- `mend::mend` meets its contract.
use mathlib.Core.Path.{sym, ◌∙◌}
use lib.ListN.{length}
use Rattle.std.proofs.lemmas.Result.{err_from_is_err_and}
use Rattle.mend.specs.Allowed.{allowed}
use Rattle.mend.proofs.Outcome.{turned_back, unmended, mended}
use Rattle.mend.proofs.mend.Goals as goal

pub returns-in_err-answer_lent : goal.returns-in_err-answer_lent
returns-in_err-answer_lent c =
    let a = c.args in
    let p = err_from_is_err_and c.from_residual.result c.from_residual.ensures.1 in
    rw (p.1, p.2) (turned_back a.start a.end a.bits.now a.decisions.now a.out.now a.list.now _ (sym c.in_err-answer_lent.was ∙ c.answer_lent.ensures))

pub least_distance-requires : goal.least_distance-requires
least_distance-requires c =
    let a = c.args in
    (allowed a.bits.now (length a.decisions.now) (length a.out.now) (length a.list.now) (sym c.answer_lent.ensures ∙ c.in_ok-answer_lent.was)).are_bits

pub returns-then-least_distance-gt-MOST_CHANGED : goal.returns-then-least_distance-gt-MOST_CHANGED
returns-then-least_distance-gt-MOST_CHANGED c =
    let yes = c in
    let answer-lent = yes in
    let start = answer-lent in
    let a = start.args in
    let far = rw c.least_distance.ensures at c.if-least_distance-gt-MOST_CHANGED.true in
    unmended a.start a.end a.bits.now a.decisions.now a.out.now a.list.now (sym answer-lent.answer_lent.ensures ∙ yes.in_ok-answer_lent.was) far

pub mend_near-requires : goal.mend_near-requires
mend_near-requires c =
    let near = c in
    let yes = near in
    let answer-lent = yes in
    let start = answer-lent in
    let a = start.args in
    (allowed a.bits.now (length a.decisions.now) (length a.out.now) (length a.list.now) (sym answer-lent.answer_lent.ensures ∙ yes.in_ok-answer_lent.was), rw near.least_distance.ensures at near.if-least_distance-gt-MOST_CHANGED.false)

pub returns : goal.returns
returns c =
    let mend-near = c in
    let near = mend-near in
    let yes = near in
    let answer-lent = yes in
    let start = answer-lent in
    let a = start.args in
    let done = mend-near.mend_near in
    mended a.start a.end a.bits.now a.decisions.now a.out.now a.list.now done.result _ _ _ (sym answer-lent.answer_lent.ensures ∙ yes.in_ok-answer_lent.was)
    (rw near.least_distance.ensures at near.if-least_distance-gt-MOST_CHANGED.false) done.ensures
