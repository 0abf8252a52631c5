-- `short_fec::flush` meets its contract.
use Rattle.short_fec.specs.Calls.{best_of}
use Rattle.trellis.specs.Step.{best}
use Rattle.trellis.specs.Isdb.{rule}
use lib.ListN.{take}
use Rattle.short_code.specs.Codes.{states_of}
use Rattle.short_code.specs.CodeLaws.{states_are, good_length_lem}
use mathlib.Core.Path.{◌≡◌, sym, ◌∙◌, ap}
use native.Mathlib.Omega.{arith}
use Prim.Native.Nat.{ℕ, ◌-◌, ◌*◌}
use Rattle.isdb_fec.proofs.WholeLaws.{as_given}
use Rattle.std.proofs.lemmas.Result.{err_from_is_err_and}
use Rattle.short_rows.proofs.RowLaws.{flush_enough}
use lib.ListN.{length}
use Rattle.short_fec.proofs.flush.Goals as goal

pub returns-in_err-answer_flush : goal.returns-in_err-answer_flush
returns-in_err-answer_flush c =
    let a = c.args in
    let p = err_from_is_err_and c.from_residual.result c.from_residual.ensures.1 in
    record { answers = rw (p.1, p.2) (sym c.in_err-answer_flush.was ∙ c.answer_flush.ensures); leaves = rw p.1 (as_given a.decisions.now a.out.now) }

pub half-h-requires : goal.half-h-requires
half-h-requires c =
    let t = c in
    let answer-flush = t in
    let start = answer-flush in
    let a = start.args in
    good_length_lem a.code (flush_enough a.code a.dec (length a.decisions.now) (length a.out.now) (sym t.in_ok-answer_flush.was ∙ answer-flush.answer_flush.ensures)).0

pub flush_from-requires : goal.flush_from-requires
flush_from-requires c =
    let at-half = c in
    let t = at-half in
    let answer-flush = t in
    let start = answer-flush in
    let a = start.args in
    let e = flush_enough a.code a.dec (length a.decisions.now) (length a.out.now) (sym t.in_ok-answer_flush.was ∙ answer-flush.answer_flush.ensures) in
    let half = at-half.half-h in
    let all = states_are a.code half.result half.ensures.2 in
    let under = c.best_state-best.ensures.0 in
    let f = e.1.fewer in
    let g = e.1.fits in
    (e.0, omega arith, omega arith, e.1.room)

pub returns : goal.returns
returns c =
    let flush-from = c in
    let at-best-state = flush-from in
    let at-half = at-best-state in
    let t = at-half in
    let answer-flush = t in
    let start = answer-flush in
    let a = start.args in
    let half = at-half.half-h in
    let best-state = at-best-state.best_state-best in
    let from = flush-from.flush_from.ensures in
    let all = states_are a.code half.result half.ensures.2 in
    let e : 2 * half.result - 0 ≡ states_of a.code = omega arith in
    let is : best-state.result ≡ best_of a.code a.dec =
    best-state.ensures.1 ∙ ap (λ (k : ℕ). best rule (take k a.dec.pm) (2 * half.result - 1)) e ∙ ap (λ (k : ℕ). best rule (take (states_of a.code) a.dec.pm) (k - 1)) all in record { answers = (sym t.in_ok-answer_flush.was ∙ answer-flush.answer_flush.ensures); leaves = rw is at from }
