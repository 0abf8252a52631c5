-- `short_fec::flush_at` meets its contract.
use Rattle.short_code.specs.CodeLaws.{states_are, good_length_lem}
use native.Mathlib.Nat.{mod-lt}
use mathlib.Core.Path.{sym, ◌∙◌}
use native.Mathlib.Omega.{arith}
use Prim.Native.Nat.{◌*◌, ◌<◌}
use Rattle.isdb_fec.proofs.WholeLaws.{as_given}
use Rattle.std.proofs.lemmas.Result.{err_from_is_err_and}
use Rattle.short_rows.proofs.RowLaws.{flush_enough}
use lib.ListN.{length}
use Rattle.short_fec.proofs.flush_at.Goals as goal

pub returns-in_err-answer_flush : goal.returns-in_err-answer_flush
returns-in_err-answer_flush c =
    let a = c.args in
    let p = err_from_is_err_and c.from_residual.result c.from_residual.ensures.1 in
    record { answers = rw (p.1, p.2) (sym c.in_err-answer_flush.was ∙ c.answer_flush.ensures); leaves = rw p.1 (as_given a.decisions.now a.out.now) }

pub half-requires : goal.half-requires
half-requires c =
    let a = c.args in
    good_length_lem a.code (flush_enough a.code a.dec (length a.decisions.now) (length a.out.now) (sym c.in_ok-answer_flush.was ∙ c.answer_flush.ensures)).0

pub flush_from-requires : goal.flush_from-requires
flush_from-requires c =
    let t = c in
    let answer-flush = t in
    let start = answer-flush in
    let a = start.args in
    let half = c.half in
    let e = flush_enough a.code a.dec (length a.decisions.now) (length a.out.now) (sym t.in_ok-answer_flush.was ∙ answer-flush.answer_flush.ensures) in
    let all = states_are a.code half.result half.ensures.2 in
    let some = half.ensures.0 in
    let pos : 0 < 2 * half.result = omega arith in
    let under = mod-lt a.end pos in
    let f = e.1.fewer in
    let g = e.1.fits in
    (e.0, omega arith, omega arith, e.1.room)

pub returns : goal.returns
returns c =
    let flush-from = c in
    let at-half = flush-from in
    let t = at-half in
    let answer-flush = t in
    let start = answer-flush in
    let a = start.args in
    let half = at-half.half in
    let from = flush-from.flush_from.ensures in
    let all = states_are a.code half.result half.ensures.2 in record { answers = (sym t.in_ok-answer_flush.was ∙ answer-flush.answer_flush.ensures); leaves = rw all at from }
