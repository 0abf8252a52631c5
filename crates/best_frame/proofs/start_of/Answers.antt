-- `start_of` meets its contract.
use mathlib.Core.Path.{ap}
use Rattle.path_greatest.specs.declared.Start.TheVariants.{Given}
use Rattle.best_frame.proofs.start_of.Goals as goal

pub returns-then-known_start : goal.returns-then-known_start
returns-then-known_start c = rw c.if-known_start.true (ap Given c.start_state.ensures.0)
