-- `which_bit` meets its contract.
use borrow.Author.Tests.{lt-ltb, le-ltb}
use native.Mathlib.Omega.{arith}
use Rattle.wanted_read.proofs.which_bit.Goals as goal

pub returns-then-place-count : goal.returns-then-place-count
returns-then-place-count c = (rw (lt-ltb _ _ c.if-place-count.true), omega arith)

pub returns-else-place-count : goal.returns-else-place-count
returns-else-place-count c = (rw (le-ltb _ _ c.if-place-count.false), omega arith)
