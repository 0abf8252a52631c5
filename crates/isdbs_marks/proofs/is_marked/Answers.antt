-- `is_marked` meets its contract.
use Rattle.isdbs_combination.specs.CombinationLaws.{unit_fits}
use Rattle.isdbs_marks.proofs.is_marked.Goals as goal

pub nonzero_rem-result : goal.nonzero_rem-result
nonzero_rem-result c = rw c.slot_unit-u.ensures (unit_fits c.args.c).some

pub returns : goal.returns
returns c = simp c.slot_unit-u.ensures
