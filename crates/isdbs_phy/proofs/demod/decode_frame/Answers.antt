-- `demod::decode_frame` meets its contract.
use Rattle.std.proofs.lemmas.Result.{err_from_is_err_and}
use Rattle.isdbs_phy.proofs.Rows.{passed, refused_answer}
use Rattle.isdbs_phy.specs.DecodeRows.{some_bad, decode_rows, frame_answer}
use Rattle.isdbs_tables.specs.declared.Table.{Table}
use Rattle.isdbs_plan.specs.PlannedLaws.{table_is, plan_is, planned}
use Rattle.refusal.specs.Rows.{first_row, Answer}
use Rattle.refusal.proofs.RowLaws.{err_refuses, refused}
use Rattle.isdbs_metrics.specs.Scales.{received_by}
use Rattle.strain_marks.specs.Strain.{strain_sum}
use lib.ListN.{length}
use mathlib.Core.Path.{refl, sym, ◌∙◌, ap}
use Rattle.isdbs_phy.proofs.demod.decode_frame.Goals as goal

pub decode_answer-requires : goal.decode_answer-requires
decode_answer-requires c = (plan_is c.plan_of-p.ensures.0, c.plan_of-p.ensures.1)

pub returns-in_err-decode_answer : goal.returns-in_err-decode_answer
returns-in_err-decode_answer c =
    let a = c.args in
    let sum = strain_sum a.t (received_by a.re.now a.im.now a.o.mapping a.o.scales) a.o.known_start a.first in
    let et = table_is c.plan_of-p.ensures.0 in
    let ea = sym c.in_err-decode_answer.was ∙ c.decode_answer.ensures ∙ ap (λ (z : Table). first_row (decode_rows z a.re.now a.im.now a.o.scales (length a.decisions.now) (length a.bits.now) (length a.bytes.now) (length a.counts.now))) et in
    let p = err_from_is_err_and c.from_residual.result c.from_residual.ensures.1 in
    record {
      answers = rw (p.1, p.2) (refused_answer _ a.t sum ∙ ap (λ (z : Answer). frame_answer z a.t sum) ea);
      leaves = refused _ (λ q. err_refuses (ea ∙ q)) (record { words = refl; decoded = refl; load = refl; strain = refl });
    }

pub decode_strained-strained-requires : goal.decode_strained-strained-requires
decode_strained-strained-requires c =
    let a = c.args in
    let pl = c.plan_of-p in
    let et = table_is pl.ensures.0 in
    let ok = sym c.in_ok-decode_answer.was ∙ c.decode_answer.ensures ∙ ap (λ (z : Table). first_row (decode_rows z a.re.now a.im.now a.o.scales (length a.decisions.now) (length a.bits.now) (length a.bytes.now) (length a.counts.now))) et in
    let p = passed a.t a.re.now a.im.now (some_bad a.o.scales) (length a.decisions.now) (length a.bits.now) (length a.bytes.now) (length a.counts.now) ok in (
      planned pl.ensures.0 pl.ensures.1 p.table,
      p.real,
      p.imaginary,
      p.words,
      rw et p.places,
      rw et p.room,
      rw et p.slots,
    )

pub returns : goal.returns
returns c =
    let a = c.args in
    let sum = strain_sum a.t (received_by a.re.now a.im.now a.o.mapping a.o.scales) a.o.known_start a.first in
    let pl = c.plan_of-p in
    let et = table_is pl.ensures.0 in
    let ok = sym c.in_ok-decode_answer.was ∙ c.decode_answer.ensures ∙ ap (λ (z : Table). first_row (decode_rows z a.re.now a.im.now a.o.scales (length a.decisions.now) (length a.bits.now) (length a.bytes.now) (length a.counts.now))) et in
    let ds = c.decode_strained-strained in
    let read = rw et at ds.ensures.read in
    let strain = rw et at ds.ensures.strain in
    record {
      answers = rw (pl.ensures.0, strain.sum_is) (ap (λ (z : Answer). frame_answer z a.t sum) ok);
      leaves = ((λ q. record { read = read; strain = strain.counts_are }), (λ n. absurd (n (sym ok))));
    }
