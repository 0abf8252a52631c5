-- `isdbt_steps::value_of` meets its contract.
use mathlib.Core.Path.{refl}
use borrow.Author.Tests.{lt-ltb, le-ltb}
use Rattle.isdbt_steps.proofs.value_of.Goals as goal

pub returns-then-w-n : goal.returns-then-w-n
returns-then-w-n c = rw (lt-ltb _ _ c.if-w-n.true) refl

pub returns-else-w-n : goal.returns-else-w-n
returns-else-w-n c = rw (le-ltb _ _ c.if-w-n.false) refl
