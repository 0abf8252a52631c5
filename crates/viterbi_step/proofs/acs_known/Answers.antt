-- `viterbi_step::acs_known` meets its contract: its halves are a pair step of two zeros.
use mathlib.Core.Path.{◌∙◌, ap}
use native.Mathlib.Omega.{arith}
use Rattle.trellis.specs.Step.{renormalised, ruled}
use Rattle.viterbi_branches.specs.SignLaws.{SX, SY, sx_signs, sy_signs}
use Rattle.viterbi_step.proofs.Turn.{new_values, new_word}
use Rattle.viterbi_step.proofs.Known.{known_nexts, known_word}
use Rattle.viterbi_peak.specs.SubtractLaws.{subtracted}
use Rattle.viterbi_step.proofs.acs_known.Goals as goal

pub pair_half-low-requires : goal.pair_half-low-requires
unfolding SX SY
pair_half-low-requires c = (omega arith, sx_signs, sy_signs)

pub pair_half-high-requires : goal.pair_half-high-requires
unfolding SX SY
pair_half-high-requires c = (omega arith, sx_signs, sy_signs)

pub returns : goal.returns
returns c =
    let less = c in
    let first = less in
    let ruling = first in
    let high = ruling in
    let low = high in
    let a = low.args in
    let lower = low.pair_half-low.ensures in
    let upper = high.pair_half-high.ensures in (
      subtracted _ _ _ first.first_greatest-t.ensures less.subtract.ensures
          ∙ ap (renormalised 32) (ruling.rule_out.ensures ∙ ap (ruled 32 a.b) (new_values _ _ _ _ _ _ _ lower upper ∙ known_nexts a.pm a.b)),
      c.join.ensures ∙ new_word _ _ _ _ _ _ _ lower upper ∙ known_word a.pm a.b,
    )
