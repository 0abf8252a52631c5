use mathlib.Core.Path.{◌≡◌, refl, ap, ◌∙◌}
use mathlib.Core.List.{List}
use Prim.Native.Nat.{ℕ, ◌-◌, ◌<◌}
use native.Mathlib.Omega.{arith}
use lib.ListN.{length, set}
use Rattle.trellis.specs.Lists.{upto}
use Rattle.trellis.specs.LaidLaws.{laid_upto, length_laid_upto}
use Rattle.best_sides.specs.RunSides.{side_of}
use Rattle.best_sides.proofs.tc8psk_sides.Goals as goal

pub loop-k-init : goal.loop-k-init
unfolding upto
loop-k-init c = (omega arith, refl)

pub bounds-sides-k : goal.bounds-sides-k
bounds-sides-k c = let at = c in
    let a = c.args in
    let l = length_laid_upto (side_of a.re.now a.im.now a.m) at.loop-k.k a.sides.now (omega arith) in
    rw at.loop-k.invariant.1 (omega arith)

pub loop-k-preserved : goal.loop-k-preserved
loop-k-preserved c = let at = c in
    let a = c.args in
    let k = at.loop-k.k in
    let h : k < length a.sides.now = omega arith in
    (omega arith, ap (λ (x : List ℕ). set x k c.side_of.result) at.loop-k.invariant.1 ∙ laid_upto (side_of a.re.now a.im.now a.m) k a.sides.now c.side_of.result h c.side_of.ensures)

pub shape_of-sides : goal.shape_of-sides
shape_of-sides c = let at = c in
    let a = c.args in
    rw at.loop-k.invariant.1 (length_laid_upto (side_of a.re.now a.im.now a.m) at.loop-k.k a.sides.now (omega arith))

pub returns : goal.returns
returns c = let at = c in
    let e : at.loop-k.k ≡ c.args.n = omega arith in
    (rw e at at.loop-k.invariant).1
