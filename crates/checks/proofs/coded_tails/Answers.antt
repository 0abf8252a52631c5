-- `constants::coded_tails` meets its contract: computed.
use mathlib.Core.Path.{refl}
use Rattle.trellis.specs.Lists.{upto}
use Rattle.trellis.specs.Code.{label, output, tapped, state_at}
use Rattle.checks.specs.Tails.{tail_of}
use Rattle.checks.proofs.coded_tails.Goals as goal

pub returns : goal.returns
unfolding tail_of label output tapped state_at upto
returns c = refl
