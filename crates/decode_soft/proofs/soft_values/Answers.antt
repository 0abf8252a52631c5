-- `soft_values` meets its contract.
use Rattle.decode_soft.proofs.soft_values.Goals as goal

pub near_each-requires : goal.near_each-requires
near_each-requires c =
    let p = c.requires in
    (p.0, p.1, c.all_in_range.ensures c.if-all_in_range.true)
