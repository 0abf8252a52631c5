-- `main_symbol_position` meets its contract.
use borrow.Author.Tests.{le-leb, lt-leb}
use Rattle.isdbs_frame.proofs.main_symbol_position.Goals as goal

pub returns-then-k-lt-MAIN_SYMBOLS : goal.returns-then-k-lt-MAIN_SYMBOLS
returns-then-k-lt-MAIN_SYMBOLS c = simp (lt-leb 38976 _ c.if-k-lt-MAIN_SYMBOLS.true, c.main_place.ensures)

pub returns-else-k-lt-MAIN_SYMBOLS : goal.returns-else-k-lt-MAIN_SYMBOLS
returns-else-k-lt-MAIN_SYMBOLS c = simp (le-leb 38976 _ c.if-k-lt-MAIN_SYMBOLS.false)
