-- `short_fec::push_known` meets its contract.
use Rattle.short_code.specs.Codes.{labels}
use Rattle.short_code.specs.CodeLaws.{good_length_lem}
use Rattle.short_fec.proofs.Whole.{left}
use lib.ListN.{length, take}
use lib.Seq.{length-take-le}
use Rattle.trellis.specs.Run.{after, holding, known_steps}
use Rattle.trellis.specs.Isdb.{rule}
use mathlib.Core.Path.{◌≡◌, refl, sym, ◌∙◌}
use native.Mathlib.Omega.{arith}
use Prim.Native.Nat.{◌-◌, ◌*◌}
use Rattle.isdb_fec.proofs.WholeLaws.{as_given}
use Rattle.std.proofs.lemmas.Result.{err_from_is_err_and}
use Rattle.short_rows.proofs.RowLaws.{known_enough}
use lib.ListN.{length}
use Rattle.short_fec.proofs.push_known.Goals as goal

pub returns-in_err-answer_known : goal.returns-in_err-answer_known
returns-in_err-answer_known c =
    let a = c.args in
    let p = err_from_is_err_and c.from_residual.result c.from_residual.ensures.1 in
    record { answers = rw (p.1, p.2) (sym c.in_err-answer_known.was ∙ c.answer_known.ensures); leaves = rw p.1 (as_given a.decisions.now a.out.now) }

pub half-h-requires : goal.half-h-requires
half-h-requires c =
    let a = c.args in
    good_length_lem a.code (known_enough a.code a.dec (length a.bits.now) (length a.decisions.now) (length a.out.now) (sym c.in_ok-answer_known.was ∙ c.answer_known.ensures)).0

pub known_steps-end-requires : goal.known_steps-end-requires
known_steps-end-requires c =
    let at-half = c in
    let t = at-half in
    let answer-known = t in
    let start = answer-known in
    let a = start.args in
    let half = at-half.half-h in
    let n = half.ensures.1 in
    let e = (known_enough a.code a.dec (length a.bits.now) (length a.decisions.now) (length a.out.now) (sym t.in_ok-answer_known.was ∙ answer-known.answer_known.ensures)).1 in
    let long = c.states-all.ensures.1 in
    let taken : length (take (2 * half.result - 0) a.dec.pm) ≡ 2 * half.result = length-take-le (2 * half.result - 0) a.dec.pm (omega arith) ∙ omega arith in
    (half.ensures.0, n, half.ensures.2, taken, e.least, e.most, e.fewer, refl, e.fits, e.room)

pub returns : goal.returns
returns c =
    let known-steps = c in
    let states = known-steps in
    let at-half = states in
    let t = at-half in
    let answer-known = t in
    let start = answer-known in
    let a = start.args in
    let half = at-half.half-h in
    let end = known-steps.known_steps-end in
    let n = half.ensures.1 in
    let long = states.states-all.ensures.1 in
    let taken = length-take-le (2 * half.result - 0) a.dec.pm (omega arith) in record {
      answers = (sym t.in_ok-answer_known.was ∙ answer-known.answer_known.ensures);
      leaves = (left a.code half.result (2 * half.result - 0) a.dec (λ h m. after h (labels a.code) rule a.dec.traceback (known_steps a.bits.now) (holding (take m a.dec.pm) a.dec.held a.decisions.now) (length a.bits.now))
          end.new.pm end.result.held end.result.count a.decisions.now _ a.out.now _ half.ensures.2 (omega arith) (omega arith) end.ensures);
    }
