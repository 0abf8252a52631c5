-- `by_sign` meets its contract.
use Rattle.wanted_read.proofs.by_sign.Goals as goal

pub returns-then-x : goal.returns-then-x
returns-then-x c = rw c.if-x.true

pub returns-then-x-2 : goal.returns-then-x-2
returns-then-x-2 c = rw (c.if-x.false, c.if-x-2.true)

pub returns-else-x-2 : goal.returns-else-x-2
returns-else-x-2 c = rw (c.if-x.false, c.if-x-2.false)
