-- `y_outputs` meets its contract.
use mathlib.Core.Path.{refl}
use Rattle.encode_bits.specs.Windows.{y_outputs}
use Rattle.encode_bits.specs.WindowLaws.{sum_small}
use Rattle.encode_bits.proofs.y_outputs.Goals as goal

pub returns : goal.returns
unfolding y_outputs
returns c = (refl, sum_small c.args.z 2 3 5 6 c.requires)
