-- `period_7_8` meets its contract.
use native.Mathlib.Omega.{arith}
use lib.ListN.{length-set}
use Rattle.decode_block.proofs.PeriodPlaces.{period_7_8}
use Rattle.decode_block.proofs.period_7_8.Goals as goal

pub bounds-pairs-1 : goal.bounds-pairs-1
bounds-pairs-1 c = simp (length-set) (omega arith)

pub bounds-pairs-2 : goal.bounds-pairs-2
bounds-pairs-2 c = simp (length-set) (omega arith)

pub bounds-pairs-3 : goal.bounds-pairs-3
bounds-pairs-3 c = simp (length-set) (omega arith)

pub bounds-pairs-4 : goal.bounds-pairs-4
bounds-pairs-4 c = simp (length-set) (omega arith)

pub bounds-pairs-5 : goal.bounds-pairs-5
bounds-pairs-5 c = simp (length-set) (omega arith)

pub bounds-pairs-6 : goal.bounds-pairs-6
bounds-pairs-6 c = simp (length-set) (omega arith)

pub bounds-pairs-7 : goal.bounds-pairs-7
bounds-pairs-7 c = simp (length-set) (omega arith)

pub bounds-pairs-8 : goal.bounds-pairs-8
bounds-pairs-8 c = simp (length-set) (omega arith)

pub bounds-pairs-9 : goal.bounds-pairs-9
bounds-pairs-9 c = simp (length-set) (omega arith)

pub bounds-pairs-10 : goal.bounds-pairs-10
bounds-pairs-10 c = simp (length-set) (omega arith)

pub bounds-pairs-11 : goal.bounds-pairs-11
bounds-pairs-11 c = simp (length-set) (omega arith)

pub bounds-pairs-12 : goal.bounds-pairs-12
bounds-pairs-12 c = simp (length-set) (omega arith)

pub bounds-pairs-13 : goal.bounds-pairs-13
bounds-pairs-13 c = simp (length-set) (omega arith)

pub shape_of-pairs : goal.shape_of-pairs
shape_of-pairs c = simp (length-set) (omega arith)

pub returns : goal.returns
returns c =
    let st = c in
    period_7_8 st.args.softs.now st.args.pairs.now st.requires.1
