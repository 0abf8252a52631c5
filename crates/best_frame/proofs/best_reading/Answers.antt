-- `best_reading` meets its contract.
use mathlib.Core.Path.{refl, sym, ◌∙◌, ap}
use Prim.Native.Nat.{ℕ}
use lib.Dec.{T}
use lib.Ieee.{nan, binary32, fits}
use lib.ListN.{get_or}
use Rattle.refusal.specs.Rows.{first_row}
use Rattle.std.proofs.lemmas.Result.{err_from_is_err_and}
use Rattle.refusal.proofs.RowLaws.{refused, done, err_refuses}
use Rattle.isdbs_tables.specs.declared.Table.{Table}
use Rattle.isdbs_plan.specs.PlannedLaws.{table_is, plan_is, planned}
use Rattle.range_metrics.proofs.Accepted.{sized_by}
use Rattle.range_metrics.proofs.Elements.{elem_fits}
use Rattle.best_frame.specs.Lent.{lent, lengths}
use Rattle.best_frame.specs.BestRows.{best_rows}
use Rattle.best_frame.specs.RowLaws.{passed}
use Rattle.best_frame.proofs.best_reading.Goals as goal

pub best_answer-requires : goal.best_answer-requires
best_answer-requires c = (plan_is c.plan_of-p.ensures.0, c.plan_of-p.ensures.1)

pub returns-in_err-best_answer : goal.returns-in_err-best_answer
returns-in_err-best_answer c =
    let a = c.args in
    let same = table_is c.plan_of-p.ensures.0 in
    let said = sym c.in_err-best_answer.was ∙ c.best_answer.ensures ∙ ap (λ (z : Table). first_row (best_rows z a.re.now a.im.now a.o.scales (lengths (lent a.metrics.now a.sides.now a.words.now a.tables.now a.bits.now a.uncoded.now a.bytes.now a.leads.now)))) same in
    let p = err_from_is_err_and c.from_residual.result c.from_residual.ensures.1 in
    record {
      answers = rw (p.1, p.2) said;
      leaves = rw (p.1) (refused _ err_refuses refl);
    }

pub read_fronts-requires : goal.read_fronts-requires
read_fronts-requires c =
    let a = c.args in
    let plan = c.plan_of-p in
    let same = table_is plan.ensures.0 in
    let said = sym c.in_ok-best_answer.was ∙ c.best_answer.ensures ∙ ap (λ (z : Table). first_row (best_rows z a.re.now a.im.now a.o.scales (lengths (lent a.metrics.now a.sides.now a.words.now a.tables.now a.bits.now a.uncoded.now a.bytes.now a.leads.now)))) same in
    let p = passed a.t a.re.now a.im.now a.o.scales (lengths (lent a.metrics.now a.sides.now a.words.now a.tables.now a.bits.now a.uncoded.now a.bytes.now a.leads.now)) said in
    let g = c.well_formed.1.1.1.1.0.1.1.1.1.0 in
    let scale : (i : ℕ) → T (fits binary32 (get_or a.o.scales i nan)) = λ i. elem_fits a.o.scales g.0 i g.1.1 in (
      planned plan.ensures.0 plan.ensures.1 p.table,
      p.real,
      p.imaginary,
      sized_by a.re.now a.im.now a.o.mapping a.o.scales c.type_inv.re c.type_inv.im scale p.real_fine p.imaginary_fine p.scales_fine,
      rw same p.room,
    )

pub returns : goal.returns
returns c =
    let a = c.args in
    let same = table_is c.plan_of-p.ensures.0 in
    let said = sym c.in_ok-best_answer.was ∙ c.best_answer.ensures ∙ ap (λ (z : Table). first_row (best_rows z a.re.now a.im.now a.o.scales (lengths (lent a.metrics.now a.sides.now a.words.now a.tables.now a.bits.now a.uncoded.now a.bytes.now a.leads.now)))) same in
    record {
      answers = said;
      leaves = done (rw (same, c.start_of-start.ensures) at c.read_fronts.ensures);
    }
