-- `best_answer` meets its contract.
use mathlib.Core.Path.{sym, ◌∙◌}
use Rattle.std.proofs.lemmas.Result.{err_from_is_err_and}
use Rattle.refusal.proofs.RowLaws.{err_refuses}
use Rattle.best_frame.specs.RowLaws.{by_table, by_points, by_last}
use Rattle.best_frame.proofs.best_answer.Goals as goal

pub returns-in_err-table_answer : goal.returns-in_err-table_answer
returns-in_err-table_answer c =
    let a = c.args in
    let p = err_from_is_err_and c.from_residual.result c.from_residual.ensures.1 in
    rw (p.1, p.2) (by_table a.p.table a.re.now a.im.now a.scales a.l _ (sym c.in_err-table_answer.was ∙ c.table_answer.ensures) err_refuses)

pub returns-in_err-points_answer : goal.returns-in_err-points_answer
returns-in_err-points_answer c =
    let a = c.args in
    let p = err_from_is_err_and c.from_residual-in_err-points_answer.result c.from_residual-in_err-points_answer.ensures.1 in
    rw (p.1, p.2) (by_points a.p.table a.re.now a.im.now a.scales a.l (sym c.in_ok-table_answer.was ∙ c.table_answer.ensures) _ (sym c.in_err-points_answer.was ∙ c.points_answer.ensures) err_refuses)

pub returns-then-some_bad : goal.returns-then-some_bad
returns-then-some_bad c =
    let a = c.args in
    by_last a.p.table a.re.now a.im.now a.scales a.l (sym c.in_ok-table_answer.was ∙ c.table_answer.ensures) (sym c.in_ok-points_answer.was ∙ c.points_answer.ensures)
    (rw (sym c.some_bad.ensures ∙ c.if-some_bad.true))

pub short-requires : goal.short-requires
short-requires c =
    record { is = c.requires.0; few = c.requires.1; accepted = sym c.table_answer.ensures ∙ c.in_ok-table_answer.was }

pub returns-then-short : goal.returns-then-short
returns-then-short c =
    let a = c.args in
    by_last a.p.table a.re.now a.im.now a.scales a.l (sym c.in_ok-table_answer.was ∙ c.table_answer.ensures) (sym c.in_ok-points_answer.was ∙ c.points_answer.ensures)
    (rw (sym c.some_bad.ensures ∙ c.if-some_bad.false, sym c.short.ensures ∙ c.if-short.true))

pub returns : goal.returns
returns c =
    let a = c.args in
    by_last a.p.table a.re.now a.im.now a.scales a.l (sym c.in_ok-table_answer.was ∙ c.table_answer.ensures) (sym c.in_ok-points_answer.was ∙ c.points_answer.ensures)
    (rw (sym c.some_bad.ensures ∙ c.if-some_bad.false, sym c.short.ensures ∙ c.if-short.false))
