-- `period_2_3` meets its contract.
use native.Mathlib.Omega.{arith}
use lib.ListN.{length-set}
use Rattle.decode_block.proofs.PeriodPlaces.{period_2_3}
use Rattle.decode_block.proofs.period_2_3.Goals as goal

pub bounds-pairs-1 : goal.bounds-pairs-1
bounds-pairs-1 c = simp (length-set) (omega arith)

pub bounds-pairs-2 : goal.bounds-pairs-2
bounds-pairs-2 c = simp (length-set) (omega arith)

pub bounds-pairs-3 : goal.bounds-pairs-3
bounds-pairs-3 c = simp (length-set) (omega arith)

pub bounds-pairs-4 : goal.bounds-pairs-4
bounds-pairs-4 c = simp (length-set) (omega arith)

pub bounds-pairs-5 : goal.bounds-pairs-5
bounds-pairs-5 c = simp (length-set) (omega arith)

pub bounds-pairs-6 : goal.bounds-pairs-6
bounds-pairs-6 c = simp (length-set) (omega arith)

pub bounds-pairs-7 : goal.bounds-pairs-7
bounds-pairs-7 c = simp (length-set) (omega arith)

pub shape_of-pairs : goal.shape_of-pairs
shape_of-pairs c = simp (length-set) (omega arith)

pub returns : goal.returns
returns c =
    let st = c in
    period_2_3 st.args.softs.now st.args.pairs.now st.requires.1
