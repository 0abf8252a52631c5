use Rattle.std.proofs.Common.{◌≡◌, arith}
use Rattle.header_mean.proofs.sum_from.Goals as goal

pub returns : goal.returns
returns c =
    let e : c.loop-i.i ≡ 20 = omega arith in
    rw e at c.loop-i.invariant
