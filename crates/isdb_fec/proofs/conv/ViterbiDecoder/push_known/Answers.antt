-- `conv::ViterbiDecoder::push_known` meets its contract: `run_steps` takes all its steps.
use mathlib.Core.Path.{sym, ◌∙◌}
use native.Mathlib.Omega.{arith}
use borrow.Author.Rules.{rules}
use lib.ListN.{length}
use Rattle.std.proofs.lemmas.Result.{err_from_is_err_and}
use Rattle.trellis.specs.Run.{known_steps}
use Rattle.isdb_fec.specs.AnswerLaws.{known_enough}
use Rattle.isdb_fec.proofs.WholeLaws.{runs, ends, as_given}
use Rattle.isdb_fec.proofs.conv.ViterbiDecoder.push_known.Goals as goal

pub returns-in_err-answer_known : goal.returns-in_err-answer_known
returns-in_err-answer_known c =
    let a = c.args in
    let p = err_from_is_err_and c.from_residual.result c.from_residual.ensures.1 in
    record { answers = rw (p.1, p.2) (sym c.in_err-answer_known.was ∙ c.answer_known.ensures); leaves = rw p.1 (as_given a.decisions.now a.out.now) }

pub run_steps-at-requires : goal.run_steps-at-requires
run_steps-at-requires c =
    let known = c in
    let a = known.args in
    let e = known_enough a.self (length a.bits.now) (length a.decisions.now) (length a.out.now) (sym known.in_ok-answer_known.was ∙ known.answer_known.ensures) in
    let room = e.room in
    (e.least, e.most, e.fewer, e.fits, omega arith, search rules, omega arith)

pub returns : goal.returns
returns c =
    let run-steps = c in
    let known = run-steps in
    let answer-known = known in
    let start = answer-known in
    let ran = run-steps.run_steps-at in
    let a = start.args in
    let v = a.self in
    let xs = known_steps a.bits.now in
    let n = length a.bits.now in
    let dec = a.decisions.now in
    let out = a.out.now in
    let taken = sym known.in_ok-answer_known.was ∙ answer-known.answer_known.ensures in
    let e = known_enough v (length a.bits.now) (length dec) (length out) taken in
    let dec' = ran.new.decisions in
    let out' = ran.new.out in
    record {
      answers = taken;
      leaves = (ends v xs n dec out e ran.new.pm ran.result dec' out' (runs v xs n dec out e ran.result ran.new.pm dec' out' ran.ensures));
    }
