-- `scale_place` meets its contract.
use native.Mathlib.Omega.{arith}
use Rattle.isdbs_metrics.specs.ScaleLaws.{word_in}
use Rattle.decode_all.proofs.scale_place.Goals as goal

pub overflow_sub-result : goal.overflow_sub-result
overflow_sub-result c =
    let w = word_in c.args.c in
    let e = c.word-word.ensures in
    omega arith

pub returns : goal.returns
returns c =
    let w = word_in c.args.c in
    let e = c.word-word.ensures in
    (omega arith, omega arith)
