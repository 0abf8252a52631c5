use mathlib.Core.Path.{◌≡◌}
use Prim.Native.Nat.{◌-◌, ◌≤◌, ◌<◌}
use Rattle.best_grid.specs.Costs.{cheapest}
use Rattle.best_forward.proofs.cheapest_state.Given as goal

abbrev pub invariant-loop-s : goal.invariant-loop-s
invariant-loop-s l = (1 ≤ l.s) × (l.s ≤ 64) × (l.best < l.s) × (l.best ≡ cheapest l.d (l.s - 1))

abbrev pub decreases-loop-s : goal.decreases-loop-s
decreases-loop-s l = 64 - l.s
