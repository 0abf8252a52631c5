use Prim.Native.Nat.{◌%◌}
use mathlib.Core.Path.{sym, ap, ◌∙◌, subst}
use native.Mathlib.Omega.{arith}
use lib.Dec.{T}
use lib.Ieee.Compare.{differs_from_itself}
use Rattle.ieee.proofs.Bits.{number}
use Rattle.best_grid.specs.Grid.{cost}
use Rattle.best_grid.proofs.Patterns.{cost_nan, cost_plus, cost_minus, units_at_most}
use Rattle.best_forward.proofs.cost_of.Goals as goal

pub returns-then-x : goal.returns-then-x
returns-then-x c = sym (ap cost (differs_from_itself c.args.x (subst T (sym c.if-x.true) tt)) ∙ cost_nan)

pub float_to_bits-x : goal.float_to_bits-x
float_to_bits-x c = number c.args.x c.if-x.false

pub overflow_sub-result : goal.overflow_sub-result
overflow_sub-result c = let e = c.units-u.ensures in
    let m = units_at_most (c.from-bits.result % 2147483648) in
    omega arith

pub overflow_add-result : goal.overflow_add-result
overflow_add-result c = let e = c.units-u.ensures in
    let m = units_at_most (c.from-bits.result % 2147483648) in
    omega arith

pub returns-then-bits-lt2147483648 : goal.returns-then-bits-lt2147483648
returns-then-bits-lt2147483648 c = let w = c.from-bits.ensures in
    let e = c.units-u.ensures in
    rw e (rw w (sym (cost_plus c.args.x (subst T (sym c.well_formed.0.1) tt) (number c.args.x c.if-x.false) (omega arith))))

pub returns-else-bits-lt2147483648 : goal.returns-else-bits-lt2147483648
returns-else-bits-lt2147483648 c = let w = c.from-bits.ensures in
    let e = c.units-u.ensures in
    rw e (rw w (sym (cost_minus c.args.x (subst T (sym c.well_formed.0.1) tt) (number c.args.x c.if-x.false) (omega arith))))
