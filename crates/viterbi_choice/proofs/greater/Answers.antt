-- `viterbi_choice::greater` meets its contract, in either arm.
use mathlib.Core.Path.{refl}
use Rattle.viterbi_choice.proofs.greater.Goals as goal

pub returns-then-second-first : goal.returns-then-second-first
returns-then-second-first c = rw c.if-second-first.true refl

pub returns-else-second-first : goal.returns-else-second-first
returns-else-second-first c = rw c.if-second-first.false refl
