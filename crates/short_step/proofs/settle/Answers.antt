-- `short_step::settle` meets its contract.
use mathlib.Core.Path.{◌∙◌, ap}
use mathlib.Core.List.{List}
use lib.Ieee.{Float}
use Rattle.trellis.specs.Step.{renormalised}
use Rattle.trellis.specs.Run.{settled}
use Rattle.short_step.proofs.settle.Goals as goal

pub returns-in-Pair : goal.returns-in-Pair
unfolding settled
returns-in-Pair c = λ out. rw c.in-Pair.is c.sixty_fourth.ensures

pub returns-in-Four : goal.returns-in-Four
unfolding settled
returns-in-Four c = λ out. rw c.in-Four.is c.sixty_fourth-in-Four.ensures

pub returns-in-Known : goal.returns-in-Known
unfolding settled
returns-in-Known c =
    let rule-out = c in
    let x3 = rule-out in
    let start = x3 in
    λ out. rw x3.in-Known.is (c.renormalise.ensures ∙ ap (λ (y : List Float). renormalised start.args.h y) rule-out.rule_out.ensures)
