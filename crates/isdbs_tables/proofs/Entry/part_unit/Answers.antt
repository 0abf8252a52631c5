-- `part_unit` meets its contract.
use Rattle.isdbs_combination.specs.CombinationLaws.{unit_fits}
use Rattle.isdbs_tables.proofs.Entry.part_unit.Goals as goal

pub nonzero_rem-result : goal.nonzero_rem-result
nonzero_rem-result c = rw c.slot_unit-u.ensures (unit_fits c.in-Some.c).some

pub returns-in-Some : goal.returns-in-Some
returns-in-Some c =
    rw (← c.combination.ensures, c.in-Some.is, ← c.slot_unit-u.ensures)

pub returns-in-None : goal.returns-in-None
returns-in-None c = rw (← c.combination.ensures, c.in-None.is)
