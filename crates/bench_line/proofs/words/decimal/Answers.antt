-- `decimal` meets its contract.
use lib.Ieee.{of_bits}
use Rattle.bench_line.specs.NumberLaws.{thousandth}
use Rattle.bench_line.proofs.words.decimal.Goals as goal

pub returns : goal.returns
unfolding of_bits
returns c = rw c.nearest_u32_to_f32.ensures (thousandth c.args.thousandths c.requires)
