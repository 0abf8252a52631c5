-- `viterbi_peak::renormalise` meets its contract.
use Rattle.viterbi_peak.specs.SubtractLaws.{subtracted}
use Rattle.viterbi_peak.proofs.renormalise.Goals as goal

pub returns : goal.returns
returns c = subtracted _ _ _ c.greatest-t.ensures c.subtract.ensures
