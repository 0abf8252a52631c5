-- `holds` meets its contract.
use borrow.Author.Tests.{eq-eqb, ne_eqb}
use Rattle.isdbs_core.proofs.slots.holds.Goals as goal

pub returns-then-p-i : goal.returns-then-p-i
returns-then-p-i c = simp (eq-eqb _ _ c.if-p-i.true)

pub returns-else-p-i : goal.returns-else-p-i
returns-else-p-i c = simp (ne_eqb _ _ c.if-p-i.false)
