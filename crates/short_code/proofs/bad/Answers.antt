-- `short_code::bad` meets its contract, in either arm.
use mathlib.Core.Path.{refl, sym, ◌∙◌}
use Rattle.short_code.proofs.bad.Goals as goal

pub returns-then-good : goal.returns-then-good
returns-then-good c = rw (sym c.good.ensures ∙ c.if-good.true) refl

pub returns-else-good : goal.returns-else-good
returns-else-good c = rw (sym c.good.ensures ∙ c.if-good.false) refl
