use mathlib.Core.Path.{◌≡◌, refl, ap, ◌∙◌}
use mathlib.Core.List.{List}
use Prim.Native.Nat.{◌-◌, ◌<◌}
use native.Mathlib.Omega.{arith}
use lib.ListN.{length, get_or, set}
use lib.Ieee.{Float, nan}
use Rattle.trellis.specs.Lists.{upto}
use Rattle.trellis.specs.LaidLaws.{laid_upto, length_laid_upto}
use Rattle.best_metrics.specs.Floats.{floats}
use Rattle.best_metrics.proofs.take_block.Goals as goal

pub loop-i-init : goal.loop-i-init
unfolding upto
loop-i-init c = (omega arith, refl)

pub bounds-out-i : goal.bounds-out-i
bounds-out-i c = let at = c in
    let a = at.args in
    let l = length_laid_upto (floats a.block.now) at.loop-i.i a.out.now (omega arith) in
    rw at.loop-i.invariant.1 (omega arith)

pub loop-i-preserved : goal.loop-i-preserved
loop-i-preserved c = let at = c in
    let a = at.args in
    let i = at.loop-i.i in
    let h : i < length a.out.now = omega arith in
    (omega arith, ap (λ (x : List Float). set x i (get_or a.block.now i nan)) at.loop-i.invariant.1 ∙ laid_upto (floats a.block.now) i a.out.now (get_or a.block.now i nan) h refl)

pub shape_of-out : goal.shape_of-out
shape_of-out c = let at = c in
    let a = at.args in
    rw at.loop-i.invariant.1 (length_laid_upto (floats a.block.now) at.loop-i.i a.out.now (omega arith))

pub returns : goal.returns
returns c = let at = c in
    let e : at.loop-i.i ≡ at.args.count = omega arith in
    (rw e at at.loop-i.invariant).1
