-- `soft_magnitudes` meets its contract.
use Rattle.decode_soft.proofs.soft_magnitudes.Goals as goal

pub near_magnitudes-requires : goal.near_magnitudes-requires
near_magnitudes-requires c =
    let p = c.requires in
    (p.0, p.1, c.all_in_range.ensures c.if-all_in_range.true)
