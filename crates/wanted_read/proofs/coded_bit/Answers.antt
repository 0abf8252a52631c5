-- `coded_bit` meets its contract.
use borrow.Author.Tests.{eq-eqb, ne_eqb}
use native.Mathlib.Omega.{arith}
use Prim.Native.Nat.{◌%◌}
use Rattle.wanted_read.proofs.coded_bit.Goals as goal

pub returns-then-b-eq0 : goal.returns-then-b-eq0
returns-then-b-eq0 c = (rw (eq-eqb (c.args.b % 2) 0 c.if-b-eq0.true), omega arith)

pub returns-else-b-eq0 : goal.returns-else-b-eq0
returns-else-b-eq0 c = (rw (ne_eqb (c.args.b % 2) 0 c.if-b-eq0.false), omega arith)
