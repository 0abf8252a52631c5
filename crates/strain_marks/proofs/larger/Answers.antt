-- `larger` meets its contract.
use Rattle.strain_marks.proofs.larger.Goals as goal

pub returns-then-x-b : goal.returns-then-x-b
returns-then-x-b c = rw c.if-x-b.true

pub returns-else-x-b : goal.returns-else-x-b
returns-else-x-b c = rw c.if-x-b.false
