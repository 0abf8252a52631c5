-- `part_of` meets its contract.
use borrow.Author.Tests.{eq-eqb, ne_eqb}
use Rattle.wanted_read.proofs.part_of.Goals as goal

pub returns-then-h-real : goal.returns-then-h-real
returns-then-h-real c = rw (eq-eqb _ _ c.if-h-real.true)

pub returns-else-h-real : goal.returns-else-h-real
returns-else-h-real c = rw (ne_eqb _ _ c.if-h-real.false)
