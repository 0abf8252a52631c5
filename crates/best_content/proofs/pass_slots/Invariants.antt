use mathlib.Core.Path.{◌≡◌}
use Prim.Native.Nat.{◌-◌, ◌≤◌}
use lib.ListN.{length, get_or}
use Rattle.trellis.specs.Lists.{upto, laid}
use Rattle.trellis.specs.Run.{quadruple}
use Rattle.best_grid.specs.Grid.{cost_at}
use Rattle.best_grid.specs.Costs.{table_at, word_at}
use Rattle.best_content.specs.Slots.{Saved}
use Rattle.best_content.proofs.pass_slots.Given as goal

abbrev pub invariant-loop-k : goal.invariant-loop-k
invariant-loop-k l = (l.k ≤ l.slots) × (l.d ≡ table_at l.initial.d (cost_at (quadruple l.metrics)) (get_or l.marks l.k 0)) × (l.decisions ≡ laid (upto (word_at l.initial.d (cost_at (quadruple l.metrics))) (get_or l.marks l.k 0)) l.initial.decisions) × (length l.tables ≡ length l.initial.tables) × Saved l.initial.d (cost_at (quadruple l.metrics)) l.marks l.k l.tables

abbrev pub decreases-loop-k : goal.decreases-loop-k
decreases-loop-k l = l.slots - l.k
