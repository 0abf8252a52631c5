-- `short_step::sixty_fourth` meets its contract.
use mathlib.Core.Path.{refl}
use Prim.Native.Nat.{◌%◌}
use borrow.Author.Tests.{eq-eqb, ne_eqb}
use Rattle.short_step.proofs.sixty_fourth.Goals as goal

pub returns-then-i-eq-LAST_STEP : goal.returns-then-i-eq-LAST_STEP
returns-then-i-eq-LAST_STEP c = rw (eq-eqb (c.args.i % 64) 63 c.if-i-eq-LAST_STEP.true) c.renormalise.ensures

pub returns-else-i-eq-LAST_STEP : goal.returns-else-i-eq-LAST_STEP
returns-else-i-eq-LAST_STEP c = rw (ne_eqb (c.args.i % 64) 63 c.if-i-eq-LAST_STEP.false) refl
