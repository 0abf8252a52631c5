-- `short_fec::answer_flush` meets its contract.
use mathlib.Core.Path.{refl, sym, ◌∙◌}
use Rattle.std.proofs.lemmas.Result.{err_from_is_err_and}
use Prim.Native.Nat.{◌+◌, ◌-◌}
use borrow.Author.Rules.{rules}
use mathlib.Core.List.{[], ◌∷◌}
use borrow.Author.Tests.{lt-ltb, le-ltb}
use Rattle.isdb_fec.specs.Rows.{short_of}
use Rattle.short_rows.specs.Rows.{handed_rows}
use Rattle.refusal.specs.Rows.{Space}
use Rattle.refusal.proofs.RowLaws.{turned_back, passed_by}
use Rattle.short_rows.proofs.RowLaws.{sound}
use borrow.Author.Rules.{rules}
use Rattle.short_rows.proofs.answer_flush.Goals as goal

pub returns-in_err-answer_handed : goal.returns-in_err-answer_handed
returns-in_err-answer_handed c =
    let a = c.args in
    let p = err_from_is_err_and c.from_residual.result c.from_residual.ensures.1 in
    rw (p.1, p.2) (turned_back (handed_rows a.code a.dec) ((Space, short_of a.dec.held a.dec a.decisions a.out) ∷ []) _ (sym c.in_err-answer_handed.was ∙ c.answer_handed.ensures))

pub returns-then-out-dec : goal.returns-then-out-dec
returns-then-out-dec c =
    let told = c in
    let a = told.args in
    passed_by (handed_rows a.code a.dec) ((Space, short_of a.dec.held a.dec a.decisions a.out) ∷ []) tt (sym told.in_ok-answer_handed.was ∙ told.answer_handed.ensures)
    (rw (lt-ltb a.out a.dec.held c.if-out-dec.true) refl)

pub overflow_add-dec : goal.overflow_add-dec
overflow_add-dec c =
    let told = c in
    let h = sound told.args.code told.args.dec (sym told.in_ok-answer_handed.was ∙ told.answer_handed.ensures) in
    search rules

pub returns-then-decisions-dec : goal.returns-then-decisions-dec
returns-then-decisions-dec c =
    let told = c in
    let a = told.args in
    passed_by (handed_rows a.code a.dec) ((Space, short_of a.dec.held a.dec a.decisions a.out) ∷ []) tt (sym told.in_ok-answer_handed.was ∙ told.answer_handed.ensures)
    (rw (le-ltb a.out a.dec.held c.if-out-dec.false, lt-ltb a.decisions (4096 + a.dec.traceback) c.if-decisions-dec.true) refl)

pub returns : goal.returns
returns c =
    let told = c in
    let a = told.args in
    passed_by (handed_rows a.code a.dec) ((Space, short_of a.dec.held a.dec a.decisions a.out) ∷ []) tt (sym told.in_ok-answer_handed.was ∙ told.answer_handed.ensures)
    (rw (le-ltb a.out a.dec.held c.if-out-dec.false, le-ltb a.decisions (4096 + a.dec.traceback) c.if-decisions-dec.false) refl)
