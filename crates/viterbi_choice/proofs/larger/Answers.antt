-- `viterbi_choice::larger` meets its contract, in either arm.
use mathlib.Core.Path.{refl}
use Rattle.viterbi_choice.proofs.larger.Goals as goal

pub returns-then-even-odd : goal.returns-then-even-odd
returns-then-even-odd c = rw c.if-even-odd.true refl

pub returns-else-even-odd : goal.returns-else-even-odd
returns-else-even-odd c = rw c.if-even-odd.false refl
