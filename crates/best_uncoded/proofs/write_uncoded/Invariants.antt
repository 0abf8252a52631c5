use mathlib.Core.Path.{◌≡◌}
use Prim.Native.Nat.{◌-◌, ◌≤◌, ◌<◌}
use Rattle.trellis.specs.Lists.{upto, laid}
use Rattle.trellis.specs.Code.{state_at}
use Rattle.best_grid.specs.Sides.{chosen}
use Rattle.best_uncoded.proofs.write_uncoded.Given as goal

abbrev pub invariant-loop-t : goal.invariant-loop-t
invariant-loop-t l = (l.t ≤ l.n) × (l.state < 64) × (l.state ≡ state_at 32 l.s l.bits l.t) × (l.uncoded ≡ laid (upto (chosen l.sides l.bits l.s) l.t) l.initial.uncoded)

abbrev pub decreases-loop-t : goal.decreases-loop-t
decreases-loop-t l = l.n - l.t
