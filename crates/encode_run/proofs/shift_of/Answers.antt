-- `shift_of` meets its contract.
use native.Mathlib.Omega.{arith}
use borrow.Author.Tests.{lt-ltb, le-ltb, eq-eqb, ne_eqb}
use Prim.Native.Nat.{◌/◌, ◌%◌}
use Rattle.encode_run.specs.Encoded.{shift_of}
use Rattle.encode_run.proofs.shift_of.Goals as goal

pub returns-then-a-eq0 : goal.returns-then-a-eq0
unfolding shift_of
returns-then-a-eq0 c = (rw (lt-ltb (c.args.a / 2) c.args.n (omega arith), eq-eqb (c.args.a % 2) 0 (omega arith)), omega arith)

pub returns-else-a-eq0 : goal.returns-else-a-eq0
unfolding shift_of
returns-else-a-eq0 c = (rw (lt-ltb (c.args.a / 2) c.args.n (omega arith), ne_eqb (c.args.a % 2) 0 (omega arith)), omega arith)

pub returns-else-a-n : goal.returns-else-a-n
unfolding shift_of
returns-else-a-n c = (rw (le-ltb (c.args.a / 2) c.args.n (omega arith)), omega arith)
