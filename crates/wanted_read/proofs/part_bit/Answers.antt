-- `part_bit` meets its contract.
use native.Mathlib.Omega.{arith}
use Rattle.wanted_read.proofs.part_bit.Goals as goal

pub returns-then-x : goal.returns-then-x
returns-then-x c = (rw c.if-x.true, omega arith)

pub returns-else-x : goal.returns-else-x
returns-else-x c = (rw c.if-x.false, omega arith)
