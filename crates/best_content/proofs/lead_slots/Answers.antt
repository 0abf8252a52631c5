use Rattle.best_content.proofs.Slotwise.{nothing_left}
use mathlib.Core.Path.{◌≡◌, refl, ◌∙◌}
use Prim.Native.Nat.{◌+◌, ◌-◌, ◌/◌, ◌<◌}
use native.Mathlib.Omega.{arith}
use lib.ListN.{length, get_or, length-set}
use Rattle.trellis.specs.WrittenLaws.{between_more, written_whole}
use Rattle.best_grid.specs.Sides.{two, price_at}
use Rattle.best_grid.specs.Backward.{low}
use Rattle.best_content.specs.Slots.{lead_at}
use Rattle.best_content.proofs.Slotwise.{asked_part, back_room, piece_length, piece_halved, back_slot, lead_slot_is}
use Rattle.best_content.proofs.lead_slots.Goals as goal

pub loop-left-init : goal.loop-left-init
loop-left-init c = let start = c in
    let a = start.args in
    let m = start.requires.0 in
    (omega arith, refl, nothing_left (low (two a.metrics.now a.sides.now) (price_at a.metrics.now a.sides.now)) (get_or a.marks.now (length a.leads.now) 0) (length a.metrics.now / 4) m.last, λ i x y. absurd (omega arith))

pub bounds-marks-left : goal.bounds-marks-left
bounds-marks-left c =
    let at = c in
    let start = at in
    let a = start.args in
    let p = start.requires in
    let m = p.0 in
    let left = at.loop-left.left in
    let inv = at.loop-left.invariant in
    let w = inv.0 in
    let n = length a.metrics.now / 4 in
    let q = m.count in
    omega arith

pub overflow_cast-at : goal.overflow_cast-at
overflow_cast-at c = let q = c.type_inv.marks (c.loop-left.left - 1) in omega arith

pub overflow_add-to : goal.overflow_add-to
overflow_add-to c =
    let at = c in
    let start = at in
    let a = start.args in
    let p = start.requires in
    let m = p.0 in
    let left = at.loop-left.left in
    let inv = at.loop-left.invariant in
    let w = inv.0 in
    let n = length a.metrics.now / 4 in
    let q = m.count in
    omega arith

pub bounds-marks-left-in-loop-left : goal.bounds-marks-left-in-loop-left
bounds-marks-left-in-loop-left c =
    let at = c in
    let start = at in
    let a = start.args in
    let p = start.requires in
    let m = p.0 in
    let left = at.loop-left.left in
    let inv = at.loop-left.invariant in
    let w = inv.0 in
    let n = length a.metrics.now / 4 in
    let q = m.count in
    omega arith

pub overflow_cast-to : goal.overflow_cast-to
overflow_cast-to c = let q = c.type_inv.marks (c.loop-left.left - 1 + 1) in omega arith

pub overflow_mul-from : goal.overflow_mul-from
overflow_mul-from c =
    let at = c in
    let start = at in
    let a = start.args in
    let p = start.requires in
    let m = p.0 in
    let left = at.loop-left.left in
    let inv = at.loop-left.invariant in
    let w = inv.0 in
    let n = length a.metrics.now / 4 in
    let q = p.3 in
    omega arith

pub overflow_mul-end : goal.overflow_mul-end
overflow_mul-end c =
    let at = c in
    let start = at in
    let a = start.args in
    let p = start.requires in
    let m = p.0 in
    let left = at.loop-left.left in
    let inv = at.loop-left.invariant in
    let w = inv.0 in
    let n = length a.metrics.now / 4 in
    let q = p.3 in
    omega arith

pub overflow_add-end : goal.overflow_add-end
overflow_add-end c =
    let at = c in
    let start = at in
    let a = start.args in
    let p = start.requires in
    let m = p.0 in
    let left = at.loop-left.left in
    let inv = at.loop-left.invariant in
    let w = inv.0 in
    let n = length a.metrics.now / 4 in
    let q = p.3 in
    omega arith

pub overflow_sub-to : goal.overflow_sub-to
overflow_sub-to c =
    let at = c in
    let start = at in
    let a = start.args in
    let p = start.requires in
    let m = p.0 in
    let left = at.loop-left.left in
    let inv = at.loop-left.invariant in
    let w = inv.0 in
    let n = length a.metrics.now / 4 in
    let test = c.loop-left-test.true in
    let r = m.rising (left - 1) (omega arith) in
    omega arith

pub slice_bounds-lead_slot-start : goal.slice_bounds-lead_slot-start
slice_bounds-lead_slot-start c =
    let at = c in
    let start = at in
    let a = start.args in
    let p = start.requires in
    let m = p.0 in
    let left = at.loop-left.left in
    let inv = at.loop-left.invariant in
    let w = inv.0 in
    let n = length a.metrics.now / 4 in
    let test = c.loop-left-test.true in
    let q = p.3 in
    omega arith

pub slice_bounds-lead_slot-end : goal.slice_bounds-lead_slot-end
slice_bounds-lead_slot-end c =
    let at = c in
    let start = at in
    let a = start.args in
    let p = start.requires in
    let m = p.0 in
    let left = at.loop-left.left in
    let inv = at.loop-left.invariant in
    let w = inv.0 in
    let n = length a.metrics.now / 4 in
    let test = c.loop-left-test.true in
    let q = p.3 in
    omega arith

pub lead_slot-m-requires : goal.lead_slot-m-requires
lead_slot-m-requires c =
    let tested = c in
    let at = tested in
    let start = at in
    let a = start.args in
    let p = start.requires in
    let m = p.0 in
    let left = at.loop-left.left in
    let inv = at.loop-left.invariant in
    let w = inv.0 in
    let n = length a.metrics.now / 4 in
    let test = tested.loop-left-test.true in
    let k = left - 1 in
    let hk : k < length a.leads.now = omega arith in
    let e : k + 1 ≡ left = omega arith in
    let r = m.rising k hk in
    let u = m.under (k + 1) (omega arith) in
    let x = get_or a.marks.now k 0 in
    let y = get_or a.marks.now (k + 1) 0 in
    let b-is = rw (← e) at inv.2 in
    let ta = p.3 in
    let few = p.1 in (
      asked_part a.metrics.now a.sides.now a.bits.now a.uncoded.now n x y p.2 (omega arith) u,
      back_room a.metrics.now a.sides.now y (n - y) (y - x) at.loop-left.b b-is (omega arith),
      piece_length a.tables.now k (omega arith),
      piece_halved (length a.leads.now) a.tables.now k hk (omega arith) p.4,
    )

pub bounds-leads-left : goal.bounds-leads-left
bounds-leads-left c =
    let tested = c in
    let at = tested in
    let start = at in
    let a = start.args in
    let p = start.requires in
    let m = p.0 in
    let left = at.loop-left.left in
    let inv = at.loop-left.invariant in
    let w = inv.0 in
    let n = length a.metrics.now / 4 in
    let test = tested.loop-left-test.true in
    let l = inv.1 in
    omega arith

pub loop-left-preserved : goal.loop-left-preserved
loop-left-preserved c =
    let lead-slot = c in
    let tested = lead-slot in
    let at = tested in
    let start = at in
    let a = start.args in
    let p = start.requires in
    let m = p.0 in
    let left = at.loop-left.left in
    let inv = at.loop-left.invariant in
    let w = inv.0 in
    let n = length a.metrics.now / 4 in
    let test = tested.loop-left-test.true in
    let k = left - 1 in
    let hk : k < length a.leads.now = omega arith in
    let e : k + 1 ≡ left = omega arith in
    let r = m.rising k hk in
    let u = m.under (k + 1) (omega arith) in
    let x = get_or a.marks.now k 0 in
    let y = get_or a.marks.now (k + 1) 0 in
    let b-is = rw (← e) at inv.2 in
    let g = lead-slot.lead_slot-m.ensures in
    let f = lead_at a.metrics.now a.sides.now a.bits.now a.uncoded.now a.marks.now a.tables.now a.own n in
    let len = inv.1 in
    let bt = rw (← e) at inv.3 in (
      omega arith,
      length-set at.loop-left.leads k c.saturating_sub.result ∙ inv.1,
      back_slot a.metrics.now a.sides.now a.bits.now a.uncoded.now a.marks.now a.tables.now a.own n x y at.loop-left.b _ (omega arith) u b-is g.0,
      between_more 0 f k (length a.leads.now) at.loop-left.leads c.saturating_sub.result (omega arith) bt (lead_slot_is a.metrics.now a.sides.now a.bits.now a.uncoded.now a.marks.now a.tables.now a.own n k at.loop-left.b lead-slot.lead_slot-m.result c.saturating_sub.result b-is g.1 c.saturating_sub.ensures),
    )

pub shape_of-leads : goal.shape_of-leads
shape_of-leads c = c.loop-left.invariant.1

pub returns : goal.returns
returns c =
    let at = c in
    let start = at in
    let a = start.args in
    let z : at.loop-left.left ≡ 0 = omega arith in
    let inv = rw z at at.loop-left.invariant in
    let n = length a.metrics.now / 4 in
    let f = lead_at a.metrics.now a.sides.now a.bits.now a.uncoded.now a.marks.now a.tables.now a.own n in
    written_whole 0 f (length a.leads.now) at.loop-left.leads inv.1 (λ i h. inv.3 i (omega arith) h)
