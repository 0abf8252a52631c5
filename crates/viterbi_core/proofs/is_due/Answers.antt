-- `viterbi_core::is_due` meets its contract.
use mathlib.Core.Path.{refl}
use Rattle.viterbi_core.proofs.is_due.Goals as goal

pub returns-in-Pairs : goal.returns-in-Pairs
returns-in-Pairs c = rw c.in-Pairs.is refl

pub returns-in-Fours : goal.returns-in-Fours
returns-in-Fours c = rw c.in-Fours.is refl
