-- `quality` meets its contract.
use Rattle.std.specs.Prelude.{Err}
use Rattle.std.proofs.lemmas.Result.{err_from_is_err_and}
use mathlib.Core.Path.{refl, sym, ◌∙◌, ap}
use Prim.Native.Nat.{◌-◌}
use lib.ListN.{length}
use Rattle.refusal.specs.Rows.{first_row}
use Rattle.refusal.proofs.RowLaws.{is_refused, err_refuses}
use Rattle.isdbs_tables.specs.declared.Table.{Table}
use Rattle.isdbs_plan.specs.PlannedLaws.{table_is, plan_is, planned}
use Rattle.quality.specs.Rows.{quality_rows}
use Rattle.quality.proofs.Rows.{passed}
use Rattle.quality.proofs.quality.Goals as goal

pub quality_answer-requires : goal.quality_answer-requires
quality_answer-requires c = plan_is c.plan_of-p.ensures.0

pub returns-in_err-quality_answer : goal.returns-in_err-quality_answer
returns-in_err-quality_answer c =
    let a = c.args in
    let et = table_is c.plan_of-p.ensures.0 in
    let p = err_from_is_err_and c.from_residual.result c.from_residual.ensures.1 in
    rw (p.1, p.2) (record {
      answers = sym c.in_err-quality_answer.was ∙ c.quality_answer.ensures ∙ ap (λ (z : Table). first_row (quality_rows z (length a.bytes.now) a.re.now a.im.now (length a.out.now))) et;
      leaves = rw (is_refused (Err c.in_err-quality_answer.field-0.0) err_refuses) refl;
    })

pub sum_frame-requires : goal.sum_frame-requires
sum_frame-requires c =
    let plan-of = c in
    let a = plan-of.args in
    let pl = plan-of.plan_of-p in
    let et = table_is pl.ensures.0 in
    let ok = sym c.in_ok-quality_answer.was ∙ c.quality_answer.ensures ∙ ap (λ (z : Table). first_row (quality_rows z (length a.bytes.now) a.re.now a.im.now (length a.out.now))) et in
    let p = passed a.t (length a.bytes.now) a.re.now a.im.now (length a.out.now) (sym ok) in
    (planned pl.ensures.0 pl.ensures.1 p.table, p.real, p.imaginary, p.space)

pub returns : goal.returns
returns c =
    let plan-of = c in
    let a = plan-of.args in
    let et = table_is plan-of.plan_of-p.ensures.0 in
    let x = c.quality_answer in record {
      answers = sym c.in_ok-quality_answer.was ∙ x.ensures ∙ ap (λ (z : Table). first_row (quality_rows z (length a.bytes.now) a.re.now a.im.now (length a.out.now))) et;
      leaves = rw et at c.sum_frame.ensures;
    }
