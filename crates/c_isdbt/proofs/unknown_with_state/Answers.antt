-- `unknown_with_state` meets its contract.
use mathlib.Core.Path.{refl}
use borrow.Author.Tests.{lt-ltb, le-ltb}
use Rattle.c_isdbt.proofs.unknown_with_state.Goals as goal

pub returns-then-state-gt63 : goal.returns-then-state-gt63
returns-then-state-gt63 c = rw (lt-ltb 63 c.args.state c.if-state-gt63.true) refl

pub returns : goal.returns
returns c = rw (le-ltb 63 c.args.state c.if-state-gt63.false) refl
