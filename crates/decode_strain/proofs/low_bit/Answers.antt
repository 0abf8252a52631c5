-- `low_bit` meets its contract.
use native.Mathlib.Omega.{arith}
use mathlib.Core.Path.{◌≡◌}
use Rattle.decode_strain.proofs.WindowLaws.{low_even, low_odd}
use Rattle.decode_strain.proofs.low_bit.Goals as goal

pub returns-then-y-eq0 : goal.returns-then-y-eq0
returns-then-y-eq0 c =
    let start = c in
    let e : start.args.y ≡ 0 = omega arith in
    (low_even start.args.mark start.args.y e, omega arith)

pub returns-else-y-eq0 : goal.returns-else-y-eq0
returns-else-y-eq0 c =
    let start = c in
    let p = start.requires in
    let e : start.args.y ≡ 1 = omega arith in
    (low_odd start.args.mark start.args.y e, omega arith)
