-- `viterbi_step::acs` meets its contract: its halves are the whole step.
use mathlib.Core.Path.{◌∙◌}
use native.Mathlib.Omega.{arith}
use Rattle.viterbi_branches.specs.SignLaws.{SX, SY, sx_signs, sy_signs}
use Rattle.viterbi_step.proofs.Turn.{new_values, new_word}
use Rattle.viterbi_step.proofs.acs.Goals as goal

pub pair_half-low-requires : goal.pair_half-low-requires
unfolding SX SY
pair_half-low-requires c = (omega arith, sx_signs, sy_signs)

pub pair_half-high-requires : goal.pair_half-high-requires
unfolding SX SY
pair_half-high-requires c = (omega arith, sx_signs, sy_signs)

pub returns : goal.returns
returns c =
    let high = c in
    let low = high in
    let lower = low.pair_half-low.ensures in
    let upper = high.pair_half-high.ensures in
    (new_values _ _ _ _ _ _ _ lower upper, c.join.ensures ∙ new_word _ _ _ _ _ _ _ lower upper)
