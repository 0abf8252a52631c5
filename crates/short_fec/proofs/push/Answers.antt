-- `short_fec::push` meets its contract.
use mathlib.Core.Path.{refl, sym, ◌∙◌}
use Rattle.isdb_fec.proofs.WholeLaws.{as_given}
use Rattle.std.proofs.lemmas.Result.{err_from_is_err_and}
use Rattle.short_rows.proofs.RowLaws.{stream_enough}
use lib.ListN.{length}
use mathlib.Core.Logic.{inl}
use Rattle.short_fec.proofs.push.Goals as goal

pub returns-in_err-answer_stream : goal.returns-in_err-answer_stream
returns-in_err-answer_stream c =
    let a = c.args in
    let p = err_from_is_err_and c.from_residual.result c.from_residual.ensures.1 in
    record { answers = rw (p.1, p.2) (sym c.in_err-answer_stream.was ∙ c.answer_stream.ensures); leaves = rw p.1 (as_given a.decisions.now a.out.now) }

pub soft-requires : goal.soft-requires
soft-requires c =
    let told = c in
    let answer-stream = told in
    let start = answer-stream in
    let a = start.args in
    let e = stream_enough a.code 2 a.dec a.pairs.now (length a.decisions.now) (length a.out.now) (sym told.in_ok-answer_stream.was ∙ answer-stream.answer_stream.ensures) in
    (inl refl, e.0, e.1)

pub returns : goal.returns
returns c =
    let soft = c.soft.ensures in
    let told = c in record { answers = sym told.in_ok-answer_stream.was ∙ told.answer_stream.ensures; leaves = soft }
