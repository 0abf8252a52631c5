-- `double_bits` meets its contract.
use Rattle.ieee.proofs.Bits.{number}
use Rattle.cases_lib.proofs.double_bits.Goals as goal

pub float_to_bits-result : goal.float_to_bits-result
float_to_bits-result c = number c.args.x c.if-x.false
