-- `short_step::start_value` meets its contract, in either arm.
use mathlib.Core.Path.{refl}
use lib.Ieee.{of_bits, neg}
use borrow.Author.Tests.{eq-eqb, ne_eqb}
use Rattle.short_step.proofs.start_value.Goals as goal

pub returns-then-k-start : goal.returns-then-k-start
unfolding of_bits neg
returns-then-k-start c = rw (eq-eqb c.args.k c.args.start c.if-k-start.true) refl

pub returns-else-k-start : goal.returns-else-k-start
unfolding of_bits neg
returns-else-k-start c = rw (ne_eqb c.args.k c.args.start c.if-k-start.false) refl
