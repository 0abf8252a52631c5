-- `CombinationWord::combination` meets its contract: each arm is a line of the definition.
use Rattle.isdbs_combination.proofs.CombinationWord.combination.Goals as goal

pub returns-in-Assigned : goal.returns-in-Assigned
returns-in-Assigned c = rw c.in-Assigned.is
