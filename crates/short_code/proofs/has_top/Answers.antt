-- `short_code::has_top` meets its contract.
use mathlib.Core.Path.{refl}
use borrow.Author.Tests.{le-leb, lt-leb}
use Rattle.short_code.proofs.has_top.Goals as goal

pub returns-then-n-g : goal.returns-then-n-g
returns-then-n-g c = rw (le-leb c.args.n c.args.g c.if-n-g.true) refl

pub returns-else-n-g : goal.returns-else-n-g
returns-else-n-g c = rw (lt-leb c.args.n c.args.g c.if-n-g.false) refl
