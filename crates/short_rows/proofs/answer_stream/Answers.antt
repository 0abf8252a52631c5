-- `short_fec::answer_stream` meets its contract.
use mathlib.Core.Path.{refl, sym, ◌∙◌}
use Rattle.std.proofs.lemmas.Result.{err_from_is_err_and}
use Prim.Native.Nat.{◌-◌, ◌%◌}
use lib.ListN.{length}
use borrow.Author.Tests.{eq-eqb, ne_eqb}
use Rattle.isdb_fec.specs.Rows.{stream_rest}
use Rattle.short_rows.specs.Rows.{handed_rows}
use Rattle.refusal.proofs.RowLaws.{turned_back, passed_by}
use Rattle.short_rows.proofs.RowLaws.{sound}
use Rattle.short_rows.proofs.answer_stream.Goals as goal

pub returns-in_err-answer_handed : goal.returns-in_err-answer_handed
returns-in_err-answer_handed c =
    let a = c.args in
    let p = err_from_is_err_and c.from_residual.result c.from_residual.ensures.1 in
    rw (p.1, p.2) (turned_back (handed_rows a.code a.dec) (stream_rest a.per a.dec a.values.now a.decisions a.out) _ (sym c.in_err-answer_handed.was ∙ c.answer_handed.ensures))

pub returns-then-values-per-ne0 : goal.returns-then-values-per-ne0
returns-then-values-per-ne0 c =
    let told = c in
    let a = told.args in
    passed_by (handed_rows a.code a.dec) (stream_rest a.per a.dec a.values.now a.decisions a.out) tt (sym told.in_ok-answer_handed.was ∙ told.answer_handed.ensures)
    (rw (ne_eqb (length a.values.now % a.per) 0 c.if-values-per-ne0.true) refl)

pub returns-then-some_beyond : goal.returns-then-some_beyond
returns-then-some_beyond c =
    let told = c in
    let a = told.args in
    passed_by (handed_rows a.code a.dec) (stream_rest a.per a.dec a.values.now a.decisions a.out) tt (sym told.in_ok-answer_handed.was ∙ told.answer_handed.ensures)
    (rw (eq-eqb (length a.values.now % a.per) 0 c.if-values-per-ne0.false, sym c.some_beyond.ensures ∙ c.if-some_beyond.true) refl)

pub answer_space-requires : goal.answer_space-requires
answer_space-requires c =
    let told = c in
    let h = sound told.args.code told.args.dec (sym told.in_ok-answer_handed.was ∙ told.answer_handed.ensures) in
    (h.least, h.most, h.fewer)

pub returns : goal.returns
returns c =
    let told = c in
    let a = told.args in
    passed_by (handed_rows a.code a.dec) (stream_rest a.per a.dec a.values.now a.decisions a.out) tt (sym told.in_ok-answer_handed.was ∙ told.answer_handed.ensures)
    (rw (
      eq-eqb (length a.values.now % a.per) 0 c.if-values-per-ne0.false,
      sym c.some_beyond.ensures ∙ c.if-some_beyond.false,
    ) c.answer_space.ensures)
