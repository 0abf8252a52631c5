use mathlib.Core.Path.{sym}
use Rattle.best_uncoded.proofs.Choices.{coded, uncoded}
use borrow.Author.Rules.{rules}
use Rattle.best_uncoded.proofs.choice.Goals as goal

pub returns-then-side-lt16 : goal.returns-then-side-lt16
returns-then-side-lt16 c = let a = c.args in sym (coded a.side a.l (search rules))

pub returns : goal.returns
returns c = let a = c.args in sym (uncoded a.side a.l (search rules))
