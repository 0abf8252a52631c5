use mathlib.Core.Path.{ap, ◌∙◌}
use Prim.Native.Nat.{ℕ, ◌-◌}
use native.Mathlib.Omega.{arith}
use Rattle.best_grid.proofs.GridLaws.{cost_bounds}
use Rattle.best_backward.proofs.Priced.{mirror_cost}
use Rattle.best_backward.proofs.mirror_of.Goals as goal

pub overflow_sub-result : goal.overflow_sub-result
overflow_sub-result c = let e = c.cost_of.ensures in let b = (cost_bounds c.args.x).1 in omega arith

pub returns : goal.returns
returns c = ap (λ (y : ℕ). 35184372088832 - y) c.cost_of.ensures ∙ mirror_cost c.args.x
