-- `pair_bit` meets its contract.
use native.Mathlib.Omega.{arith}
use mathlib.Core.Path.{◌≡◌}
use Rattle.decode_strain.proofs.WindowLaws.{pair_even, pair_odd}
use Rattle.decode_strain.proofs.pair_bit.Goals as goal

pub returns-then-x-eq0 : goal.returns-then-x-eq0
returns-then-x-eq0 c =
    let start = c in
    let e : start.args.x ≡ 0 = omega arith in
    (pair_even start.args.mark start.args.x start.args.y c.low_bit.result e c.low_bit.ensures.0, c.low_bit.ensures.1)

pub returns-else-x-eq0 : goal.returns-else-x-eq0
returns-else-x-eq0 c =
    let start = c in
    let p = start.requires.0 in
    let e : start.args.x ≡ 1 = omega arith in
    (pair_odd start.args.mark start.args.x start.args.y c.low_bit-else-x-eq0.result e c.low_bit-else-x-eq0.ensures.0, c.low_bit-else-x-eq0.ensures.1)
