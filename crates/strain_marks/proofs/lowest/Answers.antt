-- `lowest` meets its contract.
use mathlib.Core.Path.{refl}
use lib.Ieee.{nan_bits, of_bits}
use Rattle.strain_marks.proofs.lowest.Goals as goal

pub float_from_bits-result : goal.float_from_bits-result
unfolding nan_bits
float_from_bits-result c = tt

pub returns : goal.returns
unfolding of_bits
returns c = refl
