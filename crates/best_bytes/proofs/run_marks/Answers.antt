use mathlib.Core.Path.{◌≡◌, refl, ap, ◌∙◌}
use mathlib.Core.List.{List}
use Prim.Native.Nat.{ℕ, ◌-◌, ◌*◌, ◌≤◌}
use native.Mathlib.Omega.{arith}
use native.Mathlib.Nat.{mul-le-mul_left}
use lib.ListN.{set}
use Rattle.trellis.specs.Lists.{upto}
use Rattle.trellis.specs.LaidLaws.{laid_upto, length_laid_upto}
use Rattle.best_bytes.proofs.run_marks.Invariants.{mark_from}
use Rattle.best_bytes.proofs.run_marks.Goals as goal

pub loop-k-init : goal.loop-k-init
unfolding upto
loop-k-init c = (omega arith, omega arith, refl)

pub overflow_cast-marks : goal.overflow_cast-marks
overflow_cast-marks c = let at = c in
    let a = c.args in
    let pre = c.requires in
    let most : a.steps * at.loop-k.k ≤ a.steps * a.n = mul-le-mul_left a.steps (omega arith) in
    record { fits = omega arith }

pub bounds-marks-k : goal.bounds-marks-k
bounds-marks-k c = let at = c in
    let a = c.args in
    let pre = c.requires in
    let most : a.steps * at.loop-k.k ≤ a.steps * a.n = mul-le-mul_left a.steps (omega arith) in
    let l = length_laid_upto (mark_from a.step a.steps) at.loop-k.k a.marks.now (omega arith) in
    rw at.loop-k.invariant.2 (omega arith)

pub overflow_add-at : goal.overflow_add-at
overflow_add-at c = let at = c in
    let a = c.args in
    let pre = c.requires in
    let most : a.steps * at.loop-k.k ≤ a.steps * a.n = mul-le-mul_left a.steps (omega arith) in
    let l = length_laid_upto (mark_from a.step a.steps) at.loop-k.k a.marks.now (omega arith) in
    record { fits = omega arith }

pub loop-k-preserved : goal.loop-k-preserved
loop-k-preserved c = let at = c in
    let a = c.args in
    let pre = c.requires in
    let most : a.steps * at.loop-k.k ≤ a.steps * a.n = mul-le-mul_left a.steps (omega arith) in
    let l = length_laid_upto (mark_from a.step a.steps) at.loop-k.k a.marks.now (omega arith) in
    let k = at.loop-k.k in
    let e = at.loop-k.invariant.1 in
    let v : at.loop-k.at ≡ mark_from a.step a.steps k = e in
    (omega arith, omega arith, ap (λ (x : List ℕ). set x k at.loop-k.at) at.loop-k.invariant.2 ∙ laid_upto (mark_from a.step a.steps) k a.marks.now at.loop-k.at (omega arith) v)

pub shape_of-marks : goal.shape_of-marks
shape_of-marks c = let at = c in
    let a = c.args in
    let pre = c.requires in
    let most : a.steps * at.loop-k.k ≤ a.steps * a.n = mul-le-mul_left a.steps (omega arith) in
    let l = length_laid_upto (mark_from a.step a.steps) at.loop-k.k a.marks.now (omega arith) in
    rw at.loop-k.invariant.2 l

pub returns : goal.returns
returns c = let at = c in
    let e : at.loop-k.k ≡ c.args.n = omega arith in
    (rw e at at.loop-k.invariant).2
