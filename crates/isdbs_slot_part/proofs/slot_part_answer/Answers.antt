-- `slot_part_answer` meets its contract.
use Rattle.refusal.specs.Rows.{accepted}
use Rattle.refusal.proofs.RowLaws.{err_refuses, is_refused}
use Rattle.isdbs_plan.specs.PlanLaws.{runs_accepted, runs_refused, valid_are}
use Rattle.isdbs_slot_part.proofs.PartLaws.{by_table, by_position, by_length, by_none}
use Rattle.isdbs_plan.specs.PlanLaws.{table_laid}
use Rattle.isdbs_tables.specs.Tables.{table_answer}
use Rattle.std.proofs.lemmas.Result.{err_from_is_err_and}
use mathlib.Core.Path.{sym, ◌∙◌, ap}
use native.Mathlib.Omega.{arith}
use Rattle.isdbs_slot_part.proofs.slot_part_answer.Goals as goal

pub returns-in_err-all : goal.returns-in_err-all
returns-in_err-all c =
    let t = c.args.t in
    let p = err_from_is_err_and c.from_residual.result c.from_residual.ensures.1 in
    let e = runs_refused t _ (sym c.in_err-all.was ∙ c.runs.ensures) in
    let no = is_refused (table_answer t) (λ q. err_refuses (e ∙ q)) in
    rw (p.1, p.2) (e ∙ sym (by_table c.args.bytes.now t c.args.k no))

pub returns-then-k-v : goal.returns-then-k-v
returns-then-k-v c =
    let t = c.args.t in
    let e = sym c.in_ok-all.was ∙ c.runs.ensures in
    let ok = ap accepted (runs_accepted t _ e) in
    sym (by_position c.args.bytes.now t c.args.k ok (rw (valid_are t _ e) at c.if-k-v.true))

pub overflow_mul-v : goal.overflow_mul-v
overflow_mul-v c =
    let t = c.args.t in
    let e = sym c.in_ok-all.was ∙ c.runs.ensures in
    let most = (table_laid t (runs_accepted t _ e)).valid in
    rw (valid_are t _ e) (omega arith)

pub returns-then-bytes-v : goal.returns-then-bytes-v
returns-then-bytes-v c =
    let t = c.args.t in
    let e = sym c.in_ok-all.was ∙ c.runs.ensures in
    let ok = ap accepted (runs_accepted t _ e) in
    sym (by_length c.args.bytes.now t c.args.k ok (rw (valid_are t _ e) at c.if-k-v.false) (rw (valid_are t _ e) at c.if-bytes-v.true))

pub returns : goal.returns
returns c =
    let t = c.args.t in
    let e = sym c.in_ok-all.was ∙ c.runs.ensures in
    let ok = ap accepted (runs_accepted t _ e) in
    sym (by_none c.args.bytes.now t c.args.k ok (rw (valid_are t _ e) at c.if-k-v.false) (rw (valid_are t _ e) at c.if-bytes-v.false))
