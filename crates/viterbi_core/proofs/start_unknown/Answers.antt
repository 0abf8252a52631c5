-- `viterbi_core::start_unknown` meets its contract.
use mathlib.Core.Path.{refl}
use Rattle.trellis.specs.Lists.{upto}
use Rattle.trellis.specs.Run.{start_unknown}
use Rattle.viterbi_core.proofs.start_unknown.Goals as goal

pub returns : goal.returns
unfolding start_unknown upto
returns c = refl
