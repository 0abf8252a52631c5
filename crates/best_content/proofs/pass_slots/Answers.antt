use Rattle.trellis.specs.LaidLaws.{length_laid_upto}
use Rattle.best_content.proofs.Ongoing.{room_on, saved_more, slot_table, slot_words_lem}
use mathlib.Core.Path.{◌≡◌, refl, ◌∙◌}
use Prim.Native.Nat.{◌+◌, ◌-◌, ◌/◌, ◌<◌}
use native.Mathlib.Omega.{arith}
use lib.ListN.{length, get_or}
use Rattle.trellis.specs.Lists.{upto}
use Rattle.trellis.specs.Run.{quadruple}
use Rattle.best_grid.specs.Grid.{cost_at}
use Rattle.best_grid.specs.Costs.{table_at, word_at}
use Rattle.best_content.proofs.pass_slots.Goals as goal

pub loop-k-init : goal.loop-k-init
unfolding table_at upto
loop-k-init c = let p = c.requires.0 in
    rw p.first (omega arith, refl, refl, refl, λ k s h hs. absurd (omega arith))

pub bounds-marks-k : goal.bounds-marks-k
bounds-marks-k c = let q = c.requires.0.count in omega arith

pub overflow_cast-a : goal.overflow_cast-a
overflow_cast-a c = let q = c.type_inv.marks c.loop-k.k in omega arith

pub bounds-marks-k-in-loop-k : goal.bounds-marks-k-in-loop-k
bounds-marks-k-in-loop-k c =
    let start = c in
    let q = start.requires.0.count in
    omega arith

pub overflow_cast-b : goal.overflow_cast-b
overflow_cast-b c = let q = c.type_inv.marks (c.loop-k.k + 1) in omega arith

pub pass_slot-requires : goal.pass_slot-requires
pass_slot-requires c =
    let at = c in
    let start = at in
    let a = start.args in
    let p = start.requires in
    let m = p.0 in
    let k = at.loop-k.k in
    let inv = at.loop-k.invariant in
    let hk : k < a.slots = omega arith in
    let r = m.rising k hk in
    let u = m.under (k + 1) (omega arith) in
    let ta = p.1 in
    let de = p.2 in
    let n = length a.metrics.now / 4 in
    let lt = inv.3 in
    let ld = length_laid_upto (word_at a.d.now (cost_at (quadruple a.metrics.now))) (get_or a.marks.now k 0) a.decisions.now (omega arith) in
    (omega arith, omega arith, omega arith, rw inv.2 (omega arith), room_on n a.d.now a.metrics.now (get_or a.marks.now k 0) (get_or a.marks.now (k + 1) 0) at.loop-k.d p.3 (omega arith) u inv.1)

pub loop-k-preserved : goal.loop-k-preserved
loop-k-preserved c =
    let pass-slot = c in
    let at = pass-slot in
    let start = at in
    let a = start.args in
    let p = start.requires in
    let m = p.0 in
    let k = at.loop-k.k in
    let inv = at.loop-k.invariant in
    let hk : k < a.slots = omega arith in
    let r = m.rising k hk in
    let u = m.under (k + 1) (omega arith) in
    let x = get_or a.marks.now k 0 in
    let y = get_or a.marks.now (k + 1) 0 in
    let f = cost_at (quadruple a.metrics.now) in
    let g = pass-slot.pass_slot.ensures in
    let lt = inv.3 in
    let ta = p.1 in
    let sv = saved_more a.d.now f a.marks.now k at.loop-k.tables _ at.loop-k.d (omega arith) inv.1 g.kept inv.4 in (
      omega arith,
      slot_table a.d.now a.metrics.now x y (omega arith) (omega arith) at.loop-k.d _ inv.1 g.table,
      slot_words_lem a.d.now a.metrics.now x y (omega arith) (omega arith) at.loop-k.d at.loop-k.decisions a.decisions.now _ inv.1 inv.2 g.words,
      sv.1 ∙ inv.3,
      sv.0,
    )

pub shape_of-tables : goal.shape_of-tables
shape_of-tables c = c.loop-k.invariant.3

pub shape_of-decisions : goal.shape_of-decisions
shape_of-decisions c = let at = c in
    let start = c in
    let a = start.args in
    let u = start.requires.0.under at.loop-k.k at.loop-k.invariant.0 in
    let v = start.requires.2 in
    rw at.loop-k.invariant.2 (length_laid_upto (word_at a.d.now (cost_at (quadruple a.metrics.now))) (get_or a.marks.now at.loop-k.k 0) a.decisions.now (omega arith))

pub returns : goal.returns
returns c = let at = c in
    let start = c in
    let e : at.loop-k.k ≡ start.args.slots = omega arith in
    let inv = rw e at at.loop-k.invariant in
    let l = start.requires.0.last in record {
      table = rw l at inv.1;
      words = rw l at inv.2;
      kept = (inv.4, inv.3);
    }
