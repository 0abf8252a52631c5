-- `short_step::term` meets its contract, in either arm.
use mathlib.Core.Path.{refl}
use borrow.Author.Tests.{eq-eqb, ne_eqb}
use Rattle.short_step.proofs.term.Goals as goal

pub returns-then-b-eq1 : goal.returns-then-b-eq1
returns-then-b-eq1 c = rw (eq-eqb c.args.b 1 c.if-b-eq1.true) refl

pub returns-else-b-eq1 : goal.returns-else-b-eq1
returns-else-b-eq1 c = rw (ne_eqb c.args.b 1 c.if-b-eq1.false) refl
