-- `place_after` meets its contract.
use mathlib.Core.Path.{refl}
use borrow.Author.Tests.{eq-eqb, ne_eqb}
use Rattle.encode_blocks.proofs.place_after.Goals as goal

pub returns-then-n-left : goal.returns-then-n-left
returns-then-n-left c = rw (eq-eqb c.args.n c.args.left c.if-n-left.true) refl

pub returns-else-n-left : goal.returns-else-n-left
returns-else-n-left c = rw (ne_eqb c.args.n c.args.left c.if-n-left.false) refl
