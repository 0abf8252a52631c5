-- `bit_symbol` meets its contract.
use borrow.Author.Tests.{lt-ltb, le-ltb}
use Rattle.isdbs_core.proofs.slots.bit_symbol.Goals as goal

pub returns-then-b-gt-LAST_BIT : goal.returns-then-b-gt-LAST_BIT
returns-then-b-gt-LAST_BIT c = simp (lt-ltb 1000000 _ c.if-b-gt-LAST_BIT.true)

pub returns-else-b-gt-LAST_BIT : goal.returns-else-b-gt-LAST_BIT
returns-else-b-gt-LAST_BIT c = simp (le-ltb 1000000 _ c.if-b-gt-LAST_BIT.false, c.symbol_of_bit.ensures)
