-- `x_outputs` meets its contract.
use mathlib.Core.Path.{refl}
use Rattle.encode_bits.specs.Windows.{x_outputs}
use Rattle.encode_bits.specs.WindowLaws.{sum_small}
use Rattle.encode_bits.proofs.x_outputs.Goals as goal

pub returns : goal.returns
unfolding x_outputs
returns c = (refl, sum_small c.args.z 1 2 3 6 c.requires)
