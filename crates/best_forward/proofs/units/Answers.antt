use mathlib.Core.Path.{sym, ◌∙◌}
use Prim.Native.Nat.{◌+◌, ◌-◌, ◌/◌, ◌%◌, ◌^◌, ◌<◌}
use native.Mathlib.Omega.{arith}
use lib.Pow.{shl_exact}
use Rattle.best_grid.proofs.Patterns.{units_none, units_inf, units_most, units_down, units_up}
use borrow.Author.Rules.{rules}
use Rattle.best_forward.proofs.units.Goals as goal

pub returns-then-field-lt107 : goal.returns-then-field-lt107
returns-then-field-lt107 c = sym (units_none c.args.bits (search rules))

pub returns-then-bits-ge2139095040 : goal.returns-then-bits-ge2139095040
returns-then-bits-ge2139095040 c = sym (units_inf c.args.bits (search rules))

pub returns-then-bits-gt1258291200 : goal.returns-then-bits-gt1258291200
returns-then-bits-gt1258291200 c = sym (units_most c.args.bits (omega arith) (omega arith))

pub returns-then-field-lt130 : goal.returns-then-field-lt130
returns-then-field-lt130 c = sym (units_down c.args.bits (omega arith) (omega arith))

pub returns-else-field-lt130 : goal.returns-else-field-lt130
returns-else-field-lt130 c = let b = c.args.bits in
    let e = units_up b (omega arith) (omega arith) in
    shl_exact 24 (b / 8388608 - 130) 64 (let w : b % 8388608 + 8388608 < 2 ^ 24 = omega arith in w) (omega arith) ∙ sym e
