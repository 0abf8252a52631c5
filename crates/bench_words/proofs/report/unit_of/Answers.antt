-- `unit_of` meets its contract.
use Rattle.isdbs_combination.specs.CombinationLaws.{unit_fits}
use mathlib.Core.Path.{refl}
use Rattle.bench_words.proofs.report.unit_of.Goals as goal

pub returns : goal.returns
returns c = let f = unit_fits c.args.c in rw c.slot_unit-u.ensures (f.some, f.most, refl)
