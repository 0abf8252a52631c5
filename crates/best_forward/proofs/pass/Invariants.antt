use mathlib.Core.Path.{◌≡◌}
use Prim.Native.Nat.{◌-◌, ◌≤◌}
use Rattle.trellis.specs.Lists.{upto, laid}
use Rattle.trellis.specs.Run.{quadruple}
use Rattle.best_grid.specs.Grid.{cost_at}
use Rattle.best_grid.specs.Costs.{table_at, word_at}
use Rattle.best_forward.proofs.pass.Given as goal

abbrev pub invariant-loop-k : goal.invariant-loop-k
invariant-loop-k l = (l.k ≤ l.n) × (l.d ≡ table_at l.initial.d (cost_at (quadruple l.metrics)) l.k) × (l.decisions ≡ laid (upto (word_at l.initial.d (cost_at (quadruple l.metrics))) l.k) l.initial.decisions)

abbrev pub decreases-loop-k : goal.decreases-loop-k
decreases-loop-k l = l.n - l.k
