-- `judge_answer` meets its contract.
use Rattle.refusal.proofs.RowLaws.{err_refuses}
use Rattle.std.proofs.lemmas.Result.{err_from_is_err_and}
use mathlib.Core.Path.{sym, ◌∙◌, ap}
use Prim.Native.Nat.{ℕ}
use Rattle.refusal.specs.Rows.{first_row}
use Rattle.isdbs_plan.specs.declared.Plan.{Plan}
use Rattle.judge.specs.Rows.{lent_rows}
use Rattle.judge.proofs.Rows.{by_table, by_lent}
use Rattle.judge.proofs.judge_answer.Goals as goal

pub returns-in_err-table_answer : goal.returns-in_err-table_answer
returns-in_err-table_answer c =
    let a = c.args in
    let p = err_from_is_err_and c.from_residual.result c.from_residual.ensures.1 in
    rw (p.1, p.2) (by_table a.p.table a.bytes a.re.now a.im.now a.counts _ (sym c.in_err-table_answer.was ∙ c.table_answer.ensures) err_refuses)

pub returns : goal.returns
returns c =
    let st = c in
    let a = st.args in
    by_lent a.p.table a.bytes a.re.now a.im.now a.counts (sym c.in_ok-table_answer.was ∙ c.table_answer.ensures)
    (c.lent_answer.ensures ∙ ap (λ (n : ℕ). first_row (lent_rows n a.bytes a.re.now a.im.now a.counts)) (ap (λ (z : Plan). z.bytes) st.requires))
