-- `conv::encode_punctured` meets its contract.
use mathlib.Core.Path.{refl, sym, ◌∙◌}
use native.Mathlib.Omega.{arith}
use lib.ListN.{length}
use Rattle.std.proofs.lemmas.Result.{err_from_is_err_and}
use Rattle.isdbt_table.specs.NumberLaws.{numbers}
use Rattle.isdbt_rows.proofs.RowLaws.{encode_enough}
use Rattle.isdbt_fec.proofs.Turns.{sent_count}
use Rattle.isdbt_fec.proofs.conv.encode_punctured.Goals as goal

pub returns-in_err-answer_encode : goal.returns-in_err-answer_encode
returns-in_err-answer_encode c =
    let p = err_from_is_err_and c.from_residual.result c.from_residual.ensures.1 in
    record { answers = rw (p.1, p.2) (sym c.in_err-answer_encode.was ∙ c.answer_encode.ensures); leaves = rw p.1 refl }

pub encode_periods-last-requires : goal.encode_periods-last-requires
encode_periods-last-requires c =
    let a = c.args in
    let yes = sym c.in_ok-answer_encode.was ∙ c.answer_encode.ensures in
    encode_enough a.rate a.enc.state (length a.bits.now) (length a.out.now) yes

pub nonzero_div-result : goal.nonzero_div-result
nonzero_div-result c =
    let new = c in
    let start = new in
    let r = (numbers start.args.rate _ new.new-p.ensures).ranges in
    omega arith

pub overflow_mul-result : goal.overflow_mul-result
overflow_mul-result c =
    let new = c in
    let answer-encode = new in
    let start = answer-encode in
    let a = start.args in
    let yes = sym new.in_ok-answer_encode.was ∙ answer-encode.answer_encode.ensures in
    let room = encode_enough a.rate a.enc.state (length a.bits.now) (length a.out.now) yes in
    let count = sent_count a.rate _ (length a.bits.now) new.new-p.ensures in
    omega arith

pub returns : goal.returns
returns c =
    let encode-periods = c in
    let new = encode-periods in
    let answer-encode = new in
    let start = answer-encode in
    let a = start.args in
    let yes = sym new.in_ok-answer_encode.was ∙ answer-encode.answer_encode.ensures in
    let count = sent_count a.rate _ (length a.bits.now) new.new-p.ensures in
    let q = encode-periods.encode_periods-last.ensures in record { answers = yes; leaves = (record { state_is = q.0; count_is = count; bits_are = q.1 }) }
