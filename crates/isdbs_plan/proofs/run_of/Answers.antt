-- `run_of` meets its contract.
use Rattle.isdbs_combination.specs.CombinationLaws.{unit_fits}
use Rattle.isdbs_plan.specs.RunLaws.{entry_fits}
use native.Mathlib.Omega.{arith}
use Rattle.isdbs_plan.proofs.run_of.Goals as goal

pub nonzero_div-units : goal.nonzero_div-units
nonzero_div-units c = rw c.slot_unit-u.ensures (unit_fits c.args.c).some

pub overflow_mul-result : goal.overflow_mul-result
overflow_mul-result c = let e = entry_fits c.args.c c.args.n in rw c.slot_unit-u.ensures (omega arith)

pub returns : goal.returns
returns c = simp c.slot_unit-u.ensures
