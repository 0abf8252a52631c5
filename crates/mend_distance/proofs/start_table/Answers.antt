-- `mend_distance::start_table` meets its contract.
use Prim.Native.Nat.{◌%◌}
use Rattle.trellis.specs.ListLaws.{set_replicate}
use Rattle.mend_distance.specs.Distances.{begun}
use borrow.Author.Rules.{rules}
use Rattle.mend_distance.proofs.start_table.Goals as goal

pub returns : goal.returns
unfolding begun
returns c = set_replicate 64 (c.args.start % 64) 5 0 (search rules)
