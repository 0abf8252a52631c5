-- `Combination::symbols_per_unit` meets its contract: a unit has at most 8 slots, so the product is a usize.
use native.Mathlib.Omega.{arith}
use Rattle.isdbs_combination.specs.CombinationLaws.{unit_fits}
use Rattle.isdbs_combination.proofs.Combination.symbols_per_unit.Goals as goal

pub overflow_mul-result : goal.overflow_mul-result
overflow_mul-result c = let f = (unit_fits c.args.self).most in rw c.slot_unit-unit.ensures (omega arith)

pub returns : goal.returns
returns c = rw c.slot_unit-unit.ensures
