use Rattle.best_content.proofs.Differing.{least_more}
use mathlib.Core.Path.{◌≡◌, refl}
use Prim.Native.Nat.{◌-◌}
use native.Mathlib.Omega.{arith}
use Rattle.best_grid.specs.Backward.{least_of}
use Rattle.best_content.proofs.least_sum.Goals as goal

pub loop-s-init : goal.loop-s-init
unfolding least_of
loop-s-init c = (omega arith, refl)

pub overflow_add-table : goal.overflow_add-table
overflow_add-table c = let q = c.requires.1 c.loop-s.s (omega arith) in omega arith

pub loop-s-preserved : goal.loop-s-preserved
loop-s-preserved c = let at = c in
    let a = c.args in
    (omega arith, least_more a.table.now a.d.now at.loop-s.s at.loop-s.m _ at.loop-s.invariant.1 c.min-m.ensures)

pub returns : goal.returns
returns c = let at = c in
    let e : at.loop-s.s ≡ 64 = omega arith in
    (rw e at at.loop-s.invariant).1
