use mathlib.Core.Path.{◌∙◌}
use Rattle.best_backward.proofs.Priced.{turned_coded, turned_uncoded}
use borrow.Author.Rules.{rules}
use Rattle.best_backward.proofs.turned_of.Goals as goal

pub returns-then-side-lt16 : goal.returns-then-side-lt16
returns-then-side-lt16 c = let a = c.args in turned_coded a.x a.side a.l a.z (search rules)

pub returns : goal.returns
returns c = let a = c.args in c.price_of.ensures ∙ turned_uncoded a.x a.side a.l a.z (search rules)
