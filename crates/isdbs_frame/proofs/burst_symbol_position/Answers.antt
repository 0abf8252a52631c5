-- `burst_symbol_position` meets its contract.
use borrow.Author.Tests.{le-leb, lt-leb}
use Rattle.isdbs_frame.proofs.burst_symbol_position.Goals as goal

pub returns-then-j-lt-BURST_SYMBOLS : goal.returns-then-j-lt-BURST_SYMBOLS
returns-then-j-lt-BURST_SYMBOLS c = simp (lt-leb 192 _ c.if-b-lt-BURSTS.true, lt-leb 4 _ c.if-j-lt-BURST_SYMBOLS.true)

pub returns-else-j-lt-BURST_SYMBOLS : goal.returns-else-j-lt-BURST_SYMBOLS
returns-else-j-lt-BURST_SYMBOLS c = simp (lt-leb 192 _ c.if-b-lt-BURSTS.true, le-leb 4 _ c.if-j-lt-BURST_SYMBOLS.false)

pub returns-else-b-lt-BURSTS : goal.returns-else-b-lt-BURSTS
returns-else-b-lt-BURSTS c = simp (le-leb 192 _ c.if-b-lt-BURSTS.false)
