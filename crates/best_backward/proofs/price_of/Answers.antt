use mathlib.Core.Path.{◌∙◌}
use Rattle.best_backward.proofs.Priced.{price_coded, price_better, price_worse}
use borrow.Author.Rules.{rules}
use Rattle.best_backward.proofs.price_of.Goals as goal

pub returns-then-side-lt16 : goal.returns-then-side-lt16
returns-then-side-lt16 c = let a = c.args in c.cost_of.ensures ∙ price_coded a.x a.side a.l a.z (search rules)

pub returns-then-z-side : goal.returns-then-z-side
returns-then-z-side c = let a = c.args in c.cost_of-then-z-side.ensures ∙ price_better a.x a.side a.l a.z (search rules) c.if-z-side.true

pub returns-else-z-side : goal.returns-else-z-side
returns-else-z-side c = let a = c.args in c.mirror_of.ensures ∙ price_worse a.x a.side a.l a.z (search rules) c.if-z-side.false
