-- `period_1_2` meets its contract.
use native.Mathlib.Omega.{arith}
use lib.ListN.{length-set}
use Rattle.decode_block.proofs.PeriodPlaces.{period_1_2}
use Rattle.decode_block.proofs.period_1_2.Goals as goal

pub bounds-pairs-1 : goal.bounds-pairs-1
bounds-pairs-1 c = simp (length-set) (omega arith)

pub shape_of-pairs : goal.shape_of-pairs
shape_of-pairs c = simp (length-set) (omega arith)

pub returns : goal.returns
returns c =
    let st = c in
    period_1_2 st.args.softs.now st.args.pairs.now st.requires.1
