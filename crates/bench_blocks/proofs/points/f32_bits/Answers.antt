use Rattle.ieee.proofs.Bits.{number}
use Rattle.bench_blocks.proofs.points.f32_bits.Goals as goal

pub float_to_bits-result : goal.float_to_bits-result
float_to_bits-result c = number c.soft-y.result c.if-y.false
