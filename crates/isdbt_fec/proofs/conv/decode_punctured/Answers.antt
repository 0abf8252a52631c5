-- `conv::decode_punctured` meets its contract.
use mathlib.Core.Path.{refl, sym, ◌∙◌}
use lib.ListN.{length}
use Rattle.std.proofs.lemmas.Result.{err_from_is_err_and}
use Rattle.isdbt_rows.proofs.RowLaws.{decode_enough}
use Rattle.trellis.proofs.RunLaws.{depth_range}
use Rattle.isdbt_fec.proofs.conv.decode_punctured.Goals as goal

pub returns-in_err-answer_decode : goal.returns-in_err-answer_decode
returns-in_err-answer_decode c =
    let p = err_from_is_err_and c.from_residual.result c.from_residual.ensures.1 in
    record { answers = rw (p.1, p.2) (sym c.in_err-answer_decode.was ∙ c.answer_decode.ensures); leaves = rw p.1 (record { words = refl; bits_are = refl }) }

pub decode_periods-requires : goal.decode_periods-requires
decode_periods-requires c =
    let answer-decode = c in
    let start = answer-decode in
    let a = start.args in
    let yes = sym c.in_ok-answer_decode.was ∙ answer-decode.answer_decode.ensures in
    let room = decode_enough a.rate a.llrs.now a.traceback (length a.decisions.now) (length a.out.now) yes in
    let d = depth_range a.traceback room.0 in
    rw c.depth_of-depth.ensures (d.0, d.1, room.1, room.2)

pub returns : goal.returns
returns c =
    let decode-periods = c in
    let depth-of = decode-periods in
    let answer-decode = depth-of in
    let start = answer-decode in
    let a = start.args in
    let yes = sym depth-of.in_ok-answer_decode.was ∙ answer-decode.answer_decode.ensures in
    let q = rw depth-of.depth_of-depth.ensures at decode-periods.decode_periods.ensures in record { answers = yes; leaves = (record { count_is = q.0; words = q.1; bits_are = q.2 }) }
