-- `soft_block` meets its contract.
use lib.ListN.{get_or}
use lib.Ieee.{nan}
use Rattle.ieee_cast.specs.Soft.{soft_of}
use Rattle.decode_soft.proofs.Fill.{times}
use Rattle.decode_soft.proofs.soft_block.Goals as goal

pub returns : goal.returns
returns c =
    let scaled = c.scale_block in
    let filled = c.soft_values in
    let a = c.args in
    times (λ i. soft_of (get_or a.xs.now i nan)) a.out.now a.n a.scale filled.new.out scaled.new.out filled.ensures scaled.ensures
