-- `wanted_load` meets its contract.
use mathlib.Core.Path.{refl, sym, ◌∙◌, ap}
use lib.ListN.{length}
use Rattle.refusal.specs.Rows.{first_row, Either}
use Rattle.refusal.proofs.RowLaws.{refused, err_refuses}
use Rattle.isdbs_plan.specs.declared.Plan.{Plan}
use Rattle.isdbs_tables.specs.declared.Table.{Table}
use Rattle.isdbs_plan.specs.PlannedLaws.{table_is, plan_is, planned}
use Rattle.std.specs.Prelude.{Ok, Err}
use Rattle.std.proofs.lemmas.Result.{err_from_is_err_and}
use Rattle.refusal.specs.declared.Refusal.TheVariants as row
use Rattle.wanted_load.specs.Rows.{earlier_rows}
use Rattle.wanted_load.specs.Found.{Outcome, found, none, Turned}
use Rattle.wanted_load.proofs.Answers.{by_rows}
use Rattle.wanted_load.proofs.RowLaws.{passed}
use Rattle.wanted_load.proofs.wanted_load.Goals as goal

pub earlier_answer-requires : goal.earlier_answer-requires
earlier_answer-requires c = plan_is c.plan_of-p.ensures.0

pub returns-in_err-earlier_answer : goal.returns-in_err-earlier_answer
returns-in_err-earlier_answer c =
    let a = c in
    let et = table_is c.plan_of-p.ensures.0 in
    let p = err_from_is_err_and c.from_residual.result c.from_residual.ensures.1 in
    let ea = sym c.in_err-earlier_answer.was ∙ c.earlier_answer.ensures ∙ ap (λ (z : Table). first_row (earlier_rows z (length a.args.re.now) (length a.args.im.now) (length a.args.bytes.now))) et in
    let row = c.in_err-earlier_answer.field-0.0 in
    let out : Either (first_row (earlier_rows a.args.t (length a.args.re.now) (length a.args.im.now) (length a.args.bytes.now)))
    (Outcome a.args.t a.args.m a.args.first a.args.re.now a.args.im.now (Err row) a.args.bytes.now a.args.bytes.now)
    (Turned (first_row (earlier_rows a.args.t (length a.args.re.now) (length a.args.im.now) (length a.args.bytes.now))) (Err row) a.args.bytes.now a.args.bytes.now) =
    refused _ (λ q. err_refuses (ea ∙ q)) (record { answer = ea; refused = λ q. err_refuses (ea ∙ q); kept = refl }) in
    rw (p.1, p.2) (record {
      answers = by_rows a.args.t a.args.m a.args.first a.args.re.now a.args.im.now (Err row) a.args.bytes.now a.args.bytes.now out;
      leaves = out;
    })

pub find_load-requires : goal.find_load-requires
find_load-requires c =
    let plan-of = c in
    let a = plan-of in
    let pl = plan-of.plan_of-p in
    let et = table_is pl.ensures.0 in
    let ea = c.earlier_answer.ensures ∙ ap (λ (z : Table). first_row (earlier_rows z (length a.args.re.now) (length a.args.im.now) (length a.args.bytes.now))) et in
    let p = passed a.args.t (length a.args.re.now) (length a.args.im.now) (length a.args.bytes.now) (sym c.in_ok-earlier_answer.was ∙ ea) in
    (planned pl.ensures.0 pl.ensures.1 p.table, p.real, p.imaginary, rw et p.room)

pub returns-then-find_load : goal.returns-then-find_load
returns-then-find_load c =
    let find-load = c in
    let at-enum-told = find-load in
    let earlier-answer = at-enum-told in
    let a = earlier-answer in
    let t = a.args.t in
    let re = a.args.re.now in
    let im = a.args.im.now in
    let pl = earlier-answer.plan_of-p in
    let et = table_is pl.ensures.0 in
    let ok = sym at-enum-told.in_ok-earlier_answer.was ∙ earlier-answer.earlier_answer.ensures ∙ ap (λ (z : Table). first_row (earlier_rows z (length re) (length im) (length a.args.bytes.now))) et in
    let w = rw et at find-load.find_load.ensures in
    let bytes = find-load.find_load.new.bytes in
    let f = w.yes c.if-find_load.true in
    let out : Either (first_row (earlier_rows t (length re) (length im) (length a.args.bytes.now))) (Outcome t a.args.m a.args.first re im (Ok pl.result.bytes) a.args.bytes.now bytes)
    (Turned (first_row (earlier_rows t (length re) (length im) (length a.args.bytes.now))) (Ok pl.result.bytes) a.args.bytes.now bytes) =
    ((λ q. found (ap (λ (z : Plan). Ok z.bytes) pl.ensures.0) f.0 f.1 f.2), (λ n. absurd (n (sym ok)))) in record {
      answers = by_rows t a.args.m a.args.first re im (Ok pl.result.bytes) a.args.bytes.now bytes out;
      leaves = out;
    }

pub returns-else-find_load : goal.returns-else-find_load
returns-else-find_load c =
    let find-load = c in
    let at-enum-told = find-load in
    let earlier-answer = at-enum-told in
    let a = earlier-answer in
    let t = a.args.t in
    let re = a.args.re.now in
    let im = a.args.im.now in
    let pl = earlier-answer.plan_of-p in
    let et = table_is pl.ensures.0 in
    let ok = sym at-enum-told.in_ok-earlier_answer.was ∙ earlier-answer.earlier_answer.ensures ∙ ap (λ (z : Table). first_row (earlier_rows z (length re) (length im) (length a.args.bytes.now))) et in
    let w = rw et at find-load.find_load.ensures in
    let bytes = find-load.find_load.new.bytes in
    let f = w.no c.if-find_load.false in
    let out : Either (first_row (earlier_rows t (length re) (length im) (length a.args.bytes.now))) (Outcome t a.args.m a.args.first re im (Err row.NoLoad) a.args.bytes.now bytes)
    (Turned (first_row (earlier_rows t (length re) (length im) (length a.args.bytes.now))) (Err row.NoLoad) a.args.bytes.now bytes) =
    ((λ q. none refl f.0 f.1), (λ n. absurd (n (sym ok)))) in record {
      answers = by_rows t a.args.m a.args.first re im (Err row.NoLoad) a.args.bytes.now bytes out;
      leaves = out;
    }
