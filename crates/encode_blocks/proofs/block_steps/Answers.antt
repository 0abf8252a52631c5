-- `block_steps` meets its contract.
use mathlib.Core.Path.{refl}
use borrow.Author.Tests.{lt-ltb, le-ltb}
use Rattle.encode_blocks.proofs.block_steps.Goals as goal

pub returns-then-left-most : goal.returns-then-left-most
returns-then-left-most c = rw (lt-ltb c.args.left c.args.most c.if-left-most.true) refl

pub returns-else-left-most : goal.returns-else-left-most
returns-else-left-most c = rw (le-ltb c.args.left c.args.most c.if-left-most.false) refl
