use mathlib.Core.Path.{ap, ◌∙◌}
use mathlib.Core.List.{List}
use Prim.Native.Nat.{ℕ}
use lib.ListN.{set}
use Rattle.trellis.specs.LaidLaws.{laid_upto, length_laid_upto}
use Rattle.viterbi_branches.specs.BranchLaws.{branch_numbers}
use Rattle.trellis.specs.Code.{label, output, tapped}
use Rattle.best_forward.proofs.Passes.{roomy, table_more, word_is}
use mathlib.Core.Path.{◌≡◌, refl}
use Prim.Native.Nat.{◌-◌, ◌/◌, ◌<◌}
use native.Mathlib.Omega.{arith}
use lib.ListN.{length}
use Rattle.trellis.specs.Lists.{upto}
use Rattle.trellis.specs.Run.{quadruple}
use Rattle.best_grid.specs.Grid.{cost_at}
use Rattle.best_grid.specs.Costs.{table_at, word_at}
use Rattle.best_forward.proofs.pass.Goals as goal

pub loop-k-init : goal.loop-k-init
unfolding table_at upto
loop-k-init c = let a = c.args in
    (omega arith, refl, refl)

pub cost_step-w-requires : goal.cost_step-w-requires
unfolding label output tapped
cost_step-w-requires c = let at = c in
    let start = at in
    let a = start.args in
    let n = length a.metrics.now / 4 in
    (branch_numbers _ tt, roomy n a.d.now a.metrics.now start.requires.1 at.loop-k.k (omega arith) at.loop-k.d at.loop-k.invariant.1, c.four_costs-m.ensures.small)

pub bounds-decisions-k : goal.bounds-decisions-k
bounds-decisions-k c = let at = c in
    let a = at.args in
    let l = length_laid_upto (word_at a.d.now (cost_at (quadruple a.metrics.now))) at.loop-k.k a.decisions.now (omega arith) in
    rw at.loop-k.invariant.2 (omega arith)

pub loop-k-preserved : goal.loop-k-preserved
loop-k-preserved c = let at = c in
    let a = at.args in
    let f = cost_at (quadruple a.metrics.now) in
    let k = at.loop-k.k in
    let inv = at.loop-k.invariant in
    let m = c.four_costs-m in
    let h : k < length a.decisions.now = omega arith in (
      omega arith,
      table_more a.d.now f k at.loop-k.d _ m.result inv.1 m.ensures c.cost_step-w.ensures.0,
      ap (λ (x : List ℕ). set x k c.cost_step-w.result) inv.2
          ∙ laid_upto (word_at a.d.now f) k a.decisions.now c.cost_step-w.result h (word_is a.d.now f k at.loop-k.d _ m.result inv.1 m.ensures c.cost_step-w.ensures.1),
    )

pub shape_of-decisions : goal.shape_of-decisions
shape_of-decisions c = let at = c in
    let a = at.args in
    rw at.loop-k.invariant.2 (length_laid_upto (word_at a.d.now (cost_at (quadruple a.metrics.now))) at.loop-k.k a.decisions.now (omega arith))

pub returns : goal.returns
returns c = let at = c in
    let e : at.loop-k.k ≡ length at.args.metrics.now / 4 = omega arith in
    record { table = (rw e at at.loop-k.invariant).1; words = (rw e at at.loop-k.invariant).2 }
