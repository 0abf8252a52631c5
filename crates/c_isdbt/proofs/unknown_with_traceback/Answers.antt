-- `unknown_with_traceback` meets its contract.
use mathlib.Core.Path.{refl}
use borrow.Author.Tests.{lt-ltb, le-ltb}
use Rattle.c_isdbt.proofs.unknown_with_traceback.Goals as goal

pub returns-then-traceback : goal.returns-then-traceback
returns-then-traceback c = rw (lt-ltb 1024 c.args.traceback c.if-traceback.true) refl

pub returns : goal.returns
returns c = rw (le-ltb 1024 c.args.traceback c.if-traceback.false) refl
