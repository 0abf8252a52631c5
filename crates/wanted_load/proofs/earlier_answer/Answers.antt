-- `earlier_answer` meets its contract.
use Rattle.refusal.proofs.RowLaws.{err_refuses}
use Rattle.std.proofs.lemmas.Result.{err_from_is_err_and}
use mathlib.Core.Path.{sym, ◌∙◌, ap}
use Prim.Native.Nat.{ℕ}
use Rattle.refusal.specs.Rows.{first_row}
use Rattle.isdbs_plan.specs.declared.Plan.{Plan}
use Rattle.wanted_load.specs.Rows.{lent_rows}
use Rattle.wanted_load.proofs.RowLaws.{by_table, by_lengths}
use Rattle.wanted_load.proofs.earlier_answer.Goals as goal

pub returns-in_err-table_answer : goal.returns-in_err-table_answer
returns-in_err-table_answer c =
    let a = c in
    let p = err_from_is_err_and c.from_residual.result c.from_residual.ensures.1 in
    rw (p.1, p.2) (by_table a.args.p.table a.args.re a.args.im a.args.bytes _ (sym c.in_err-table_answer.was ∙ c.table_answer.ensures) err_refuses)

pub returns : goal.returns
returns c =
    let a = c in
    by_lengths a.args.p.table a.args.re a.args.im a.args.bytes (sym c.in_ok-table_answer.was ∙ c.table_answer.ensures)
    (c.lent_answer.ensures ∙ ap (λ (n : ℕ). first_row (lent_rows n a.args.re a.args.im a.args.bytes)) (ap (λ (z : Plan). z.bytes) a.requires))
