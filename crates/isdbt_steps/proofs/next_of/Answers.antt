-- `isdbt_steps::next_of` meets its contract.
use mathlib.Core.Path.{refl}
use borrow.Author.Tests.{eq-eqb, ne_eqb}
use Rattle.isdbt_steps.proofs.next_of.Goals as goal

pub returns-then-at-width : goal.returns-then-at-width
returns-then-at-width c = rw (eq-eqb _ _ c.if-at-width.true) refl

pub returns-else-at-width : goal.returns-else-at-width
returns-else-at-width c = rw (ne_eqb _ _ c.if-at-width.false) refl
