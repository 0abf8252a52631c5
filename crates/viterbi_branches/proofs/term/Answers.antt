-- `viterbi_branches::term` meets its contract, in either arm.
use mathlib.Core.Path.{refl}
use Rattle.viterbi_branches.proofs.term.Goals as goal

pub returns-then-s : goal.returns-then-s
returns-then-s c = rw c.if-s.true refl

pub returns-else-s : goal.returns-else-s
returns-else-s c = rw c.if-s.false refl
