use mathlib.Core.Path.{◌≡◌}
use Prim.Native.Nat.{◌+◌, ◌-◌, ◌≤◌}
use Rattle.best_grid.specs.Sides.{two, price_at}
use Rattle.best_grid.specs.Backward.{low, back_run, other_run}
use Rattle.best_grid.specs.Leading.{seq}
use Rattle.best_backward.proofs.back_steps.Given as goal

abbrev pub invariant-loop-left : goal.invariant-loop-left
invariant-loop-left l = (l.left ≤ l.count) × (l.b ≡ back_run l.initial.b (low (two l.metrics l.sides) (price_at l.metrics l.sides)) (l.at + l.left) (l.count - l.left)) × (l.d ≡ other_run (two l.metrics l.sides) (price_at l.metrics l.sides) (seq l.bits) (seq l.uncoded) l.initial.d l.initial.b (l.at + l.left) (l.count - l.left))
