-- `short_step::branch` meets its contract, for each kind of step.
use mathlib.Core.Path.{refl}
use Rattle.trellis.specs.Step as trellis
use Rattle.short_step.proofs.branch.Goals as goal

pub returns-in-Pair : goal.returns-in-Pair
unfolding trellis.branch
returns-in-Pair c =
    rw c.in-Pair.is (rw (c.term.ensures, c.term-in-Pair.ensures) refl)

pub returns-in-Four : goal.returns-in-Four
unfolding trellis.branch
returns-in-Four c =
    rw c.in-Four.is refl

pub returns-in-Known : goal.returns-in-Known
unfolding trellis.branch
returns-in-Known c =
    rw c.in-Known.is (rw (c.term-in-Known.ensures, c.term-in-Known-2.ensures) refl)
