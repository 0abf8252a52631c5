use Rattle.best_uncoded.proofs.Choices.{chosen_is, state_more}
use mathlib.Core.Path.{◌≡◌, refl, ap, ◌∙◌}
use mathlib.Core.List.{List}
use Prim.Native.Nat.{ℕ, ◌-◌, ◌%◌, ◌<◌}
use native.Mathlib.Omega.{arith}
use lib.ListN.{length, get_or, set}
use Rattle.trellis.specs.Lists.{upto}
use Rattle.trellis.specs.LaidLaws.{laid_upto, length_laid_upto}
use Rattle.trellis.specs.Code.{isdb, state_at}
use Rattle.trellis.proofs.RunLaws.{label_under}
use Rattle.best_grid.specs.Sides.{chosen}
use Rattle.best_uncoded.proofs.write_uncoded.Goals as goal

pub loop-t-init : goal.loop-t-init
unfolding state_at upto
loop-t-init c = (omega arith, c.requires.0, refl, refl)

pub choice-requires : goal.choice-requires
choice-requires c =
    let at = c in
    let start = at in
    let e = c.branch_number-l.ensures in
    rw e (label_under isdb (get_or start.args.bits.now at.loop-t.t 0 % 2) (at.loop-t.state % 64))

pub bounds-uncoded-t : goal.bounds-uncoded-t
bounds-uncoded-t c =
    let at = c in
    let start = at in
    let a = start.args in
    let l = length_laid_upto (chosen a.sides.now a.bits.now a.s) at.loop-t.t a.uncoded.now (omega arith) in
    rw at.loop-t.invariant.3 (omega arith)

pub overflow_mul-state : goal.overflow_mul-state
overflow_mul-state c =
    let at = c in
    let start = at in
    let q = start.requires.4 at.loop-t.t (omega arith) in
    omega arith

pub overflow_add-state : goal.overflow_add-state
overflow_add-state c =
    let at = c in
    let start = at in
    let q = start.requires.4 at.loop-t.t (omega arith) in
    let w = at.loop-t.invariant.1 in
    omega arith

pub loop-t-preserved : goal.loop-t-preserved
loop-t-preserved c =
    let branch-number = c in
    let at = branch-number in
    let start = at in
    let a = start.args in
    let t = at.loop-t.t in
    let inv = at.loop-t.invariant in
    let hb = start.requires.4 t (omega arith) in
    let h : t < length a.uncoded.now = omega arith in
    let w = inv.1 in (
      omega arith,
      omega arith,
      state_more a.bits.now a.s t at.loop-t.state inv.2,
      ap (λ (x : List ℕ). set x t c.choice.result) inv.3
          ∙ laid_upto (chosen a.sides.now a.bits.now a.s) t a.uncoded.now c.choice.result h
          (chosen_is a.sides.now a.bits.now a.s t at.loop-t.state branch-number.branch_number-l.result _ hb inv.1 inv.2 branch-number.branch_number-l.ensures c.choice.ensures),
    )

pub shape_of-uncoded : goal.shape_of-uncoded
shape_of-uncoded c = let at = c in
    let a = c.args in
    rw at.loop-t.invariant.3 (length_laid_upto (chosen a.sides.now a.bits.now a.s) at.loop-t.t a.uncoded.now (omega arith))

pub returns : goal.returns
returns c = let at = c in
    let e : at.loop-t.t ≡ c.args.n = omega arith in
    (rw e at at.loop-t.invariant).3
