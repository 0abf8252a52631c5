-- `conv::ViterbiDecoder::flush_at` meets its contract.
use mathlib.Core.Path.{refl, sym, ◌∙◌}
use native.Mathlib.Omega.{arith}
use lib.ListN.{length}
use Rattle.std.proofs.lemmas.Result.{err_from_is_err_and}
use Rattle.isdb_fec.specs.AnswerLaws.{flush_enough}
use Rattle.isdb_fec.proofs.WholeLaws.{as_given}
use Rattle.isdb_fec.proofs.conv.ViterbiDecoder.flush_at.Goals as goal

pub returns-in_err-answer_flush : goal.returns-in_err-answer_flush
returns-in_err-answer_flush c =
    let a = c.args in
    let p = err_from_is_err_and c.from_residual.result c.from_residual.ensures.1 in
    record { answers = rw (p.1, p.2) (sym c.in_err-answer_flush.was ∙ c.answer_flush.ensures); leaves = rw p.1 (as_given a.decisions.now a.out.now) }

pub finish_at-count-requires : goal.finish_at-count-requires
finish_at-count-requires c =
    let told = c in
    let a = told.args in
    let ok = sym told.in_ok-answer_flush.was ∙ told.answer_flush.ensures in
    let e = flush_enough a.self (length a.decisions.now) (length a.out.now) ok in
    (omega arith, omega arith, omega arith)

pub returns : goal.returns
returns c =
    let finish-at = c in
    let told = finish-at in
    let answer-flush = told in
    let start = answer-flush in
    let a = start.args in
    let ok = sym told.in_ok-answer_flush.was ∙ answer-flush.answer_flush.ensures in
    let e = flush_enough a.self (length a.decisions.now) (length a.out.now) ok in
    let done = finish-at.finish_at-count.ensures in record {
      answers = ok;
      leaves = (record { values = refl; held_is = refl; traceback_is = refl; count_is = done.0 ∙ omega arith; words = done.1; bits = done.2 });
    }
