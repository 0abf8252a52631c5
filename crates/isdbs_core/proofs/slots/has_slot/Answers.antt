-- `has_slot` meets its contract.
use borrow.Author.Tests.{le-leb, lt-leb}
use Rattle.isdbs_core.proofs.slots.has_slot.Goals as goal

pub returns-then-r-slot : goal.returns-then-r-slot
returns-then-r-slot c = simp (le-leb _ _ c.if-r-slot.true)

pub returns-else-r-slot : goal.returns-else-r-slot
returns-else-r-slot c = simp (lt-leb _ _ c.if-r-slot.false)
