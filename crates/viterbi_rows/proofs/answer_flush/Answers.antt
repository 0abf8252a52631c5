-- `answer_flush` meets its contract.
use mathlib.Core.Path.{refl, sym, ◌∙◌}
use Rattle.std.proofs.lemmas.Result.{err_from_is_err_and}
use Prim.Native.Nat.{◌+◌, ◌-◌}
use borrow.Author.Rules.{rules}
use mathlib.Core.List.{[], ◌∷◌}
use borrow.Author.Tests.{lt-ltb, le-ltb}
use Rattle.viterbi_rows.specs.Rows.{handed_rows, short_of}
use Rattle.refusal.specs.Rows.{Space}
use Rattle.refusal.proofs.RowLaws.{turned_back, passed_by}
use Rattle.viterbi_rows.specs.RowLaws.{sound}
use borrow.Author.Rules.{rules}
use Rattle.viterbi_rows.proofs.answer_flush.Goals as goal

pub returns-in_err-answer_handed : goal.returns-in_err-answer_handed
returns-in_err-answer_handed c =
    let a = c.args in
    let p = err_from_is_err_and c.from_residual.result c.from_residual.ensures.1 in
    rw (p.1, p.2) (turned_back (handed_rows a.pm.now a.held a.traceback) ((Space, short_of a.held a.traceback a.decisions a.out) ∷ []) _ (sym c.in_err-answer_handed.was ∙ c.answer_handed.ensures))

pub returns-then-out-held : goal.returns-then-out-held
returns-then-out-held c =
    let told = c in
    let a = told.args in
    passed_by (handed_rows a.pm.now a.held a.traceback) ((Space, short_of a.held a.traceback a.decisions a.out) ∷ []) tt (sym told.in_ok-answer_handed.was ∙ told.answer_handed.ensures)
    (rw (lt-ltb a.out a.held c.if-out-held.true) refl)

pub overflow_add-traceback : goal.overflow_add-traceback
overflow_add-traceback c =
    let told = c in
    let h = sound told.args.pm.now told.args.held told.args.traceback (sym told.in_ok-answer_handed.was ∙ told.answer_handed.ensures) in
    search rules

pub returns-then-traceback-decisions : goal.returns-then-traceback-decisions
returns-then-traceback-decisions c =
    let told = c in
    let a = told.args in
    passed_by (handed_rows a.pm.now a.held a.traceback) ((Space, short_of a.held a.traceback a.decisions a.out) ∷ []) tt (sym told.in_ok-answer_handed.was ∙ told.answer_handed.ensures)
    (rw (le-ltb a.out a.held c.if-out-held.false, lt-ltb a.decisions (4096 + a.traceback) c.if-traceback-decisions.true) refl)

pub returns : goal.returns
returns c =
    let told = c in
    let a = told.args in
    passed_by (handed_rows a.pm.now a.held a.traceback) ((Space, short_of a.held a.traceback a.decisions a.out) ∷ []) tt (sym told.in_ok-answer_handed.was ∙ told.answer_handed.ensures)
    (rw (le-ltb a.out a.held c.if-out-held.false, le-ltb a.decisions (4096 + a.traceback) c.if-traceback-decisions.false) refl)
