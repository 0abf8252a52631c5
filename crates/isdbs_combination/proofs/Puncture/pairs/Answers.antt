-- `Puncture::pairs` meets its contract: each arm is a line of the definition.
use Rattle.isdbs_combination.proofs.Puncture.pairs.Goals as goal

pub returns-in-R2_3 : goal.returns-in-R2_3
returns-in-R2_3 c = rw c.in-R2_3.is c.bit_pairs.ensures

pub returns-in-R3_4 : goal.returns-in-R3_4
returns-in-R3_4 c = rw c.in-R3_4.is c.bit_pairs-in-R3_4.ensures

pub returns-in-R5_6 : goal.returns-in-R5_6
returns-in-R5_6 c = rw c.in-R5_6.is c.bit_pairs-in-R5_6.ensures

pub returns-in-R7_8 : goal.returns-in-R7_8
returns-in-R7_8 c = rw c.in-R7_8.is c.bit_pairs-in-R7_8.ensures
