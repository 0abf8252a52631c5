-- `judge` meets its contract.
use Rattle.std.proofs.lemmas.Result.{err_from_is_err_and}
use mathlib.Core.Path.{sym, ◌∙◌, ap}
use native.Mathlib.Omega.{arith}
use lib.ListN.{length}
use Rattle.refusal.specs.Rows.{first_row}
use Rattle.isdbs_tables.specs.declared.Table.{Table}
use Rattle.isdbs_plan.specs.PlannedLaws.{table_is, plan_is, planned}
use Rattle.judge.specs.Rows.{judge_rows}
use Rattle.judge.proofs.JudgedLaws.{passed}
use Rattle.judge.proofs.Calls.{refused, done}
use Rattle.judge.proofs.judge.Goals as goal

pub judge_answer-requires : goal.judge_answer-requires
judge_answer-requires c = plan_is c.plan_of-p.ensures.0

pub returns-in_err-judge_answer : goal.returns-in_err-judge_answer
returns-in_err-judge_answer c =
    let a = c.args in
    let et = table_is c.plan_of-p.ensures.0 in
    let p = err_from_is_err_and c.from_residual.result c.from_residual.ensures.1 in
    let e = sym c.in_err-judge_answer.was ∙ c.judge_answer.ensures ∙ ap (λ (z : Table). first_row (judge_rows z (length a.bytes.now) a.re.now a.im.now (length a.counts.now))) et in
    let k = refused a.re.now a.im.now a.bytes.now a.t a.m a.first a.counts.now c.in_err-judge_answer.field-0.0 e in
    rw (p.1, p.2) (record { answers = k.0; leaves = k.1.0; worth = k.1.1 })

pub judge_frame-requires : goal.judge_frame-requires
judge_frame-requires c =
    let plan-of = c in
    let a = plan-of.args in
    let pl = plan-of.plan_of-p in
    let et = table_is pl.ensures.0 in
    let ok = sym c.in_ok-judge_answer.was ∙ c.judge_answer.ensures ∙ ap (λ (z : Table). first_row (judge_rows z (length a.bytes.now) a.re.now a.im.now (length a.counts.now))) et in
    let p = passed a.t (length a.bytes.now) a.re.now a.im.now (length a.counts.now) (sym ok) in
    (planned pl.ensures.0 pl.ensures.1 p.table, p.real, p.imaginary, p.room)

pub returns : goal.returns
returns c =
    let plan-of = c in
    let a = plan-of.args in
    let bytes = plan-of.type_inv.bytes in
    let pl = plan-of.plan_of-p in
    let et = table_is pl.ensures.0 in
    let ok = sym c.in_ok-judge_answer.was ∙ c.judge_answer.ensures ∙ ap (λ (z : Table). first_row (judge_rows z (length a.bytes.now) a.re.now a.im.now (length a.counts.now))) et in
    let made = c.judge_frame in
    let k = done a.re.now a.im.now a.bytes.now a.t a.m a.first a.counts.now made.new.counts made.result ok (rw et at made.ensures) (λ k. omega (arith, bytes k)) in
    record { answers = k.0; leaves = k.1.0; worth = k.1.1 }
