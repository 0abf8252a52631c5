use Rattle.isdbs_metrics.specs.FrameRunLaws.{fewer}
use Rattle.decode_bytes.specs.PackingLaws.{packing_first, packing_bounds, packing_asks, packing_next, packing_last}
use native.Mathlib.Nat.{le_refl}
use Rattle.decode_bytes.proofs.pack_tc8psk.Goals as goal

pub register_points-points-requires : goal.register_points-points-requires
register_points-points-requires c = tt

pub loop-j-init : goal.loop-j-init
loop-j-init c =
    let points = c in
    let pre = points.requires in
    (points.register_points-points.ensures, packing_first pre.0 pre.1 pre.2 pre.3 pre.4 pre.5 pre.6)

pub overflow_mul-from : goal.overflow_mul-from
overflow_mul-from c = record { fits = (packing_bounds c.loop-j.invariant.1 c.loop-j-test.true).from_small }

pub offset_bounds-re-from : goal.offset_bounds-re-from
offset_bounds-re-from c = record { fits = (packing_bounds c.loop-j.invariant.1 c.loop-j-test.true).scaled_small }

pub slice_bounds-tc8psk_byte-count : goal.slice_bounds-tc8psk_byte-count
slice_bounds-tc8psk_byte-count c = (packing_bounds c.loop-j.invariant.1 c.loop-j-test.true).re_start

pub slice_bounds-tc8psk_byte-start : goal.slice_bounds-tc8psk_byte-start
slice_bounds-tc8psk_byte-start c = (packing_bounds c.loop-j.invariant.1 c.loop-j-test.true).re_start

pub slice_bounds-tc8psk_byte-end : goal.slice_bounds-tc8psk_byte-end
slice_bounds-tc8psk_byte-end c = le_refl _

pub offset_bounds-im-from : goal.offset_bounds-im-from
offset_bounds-im-from c = record { fits = (packing_bounds c.loop-j.invariant.1 c.loop-j-test.true).scaled_small }

pub slice_bounds-tc8psk_byte-count-in-loop-j : goal.slice_bounds-tc8psk_byte-count-in-loop-j
slice_bounds-tc8psk_byte-count-in-loop-j c = (packing_bounds c.loop-j.invariant.1 c.loop-j-test.true).im_start

pub slice_bounds-tc8psk_byte-start-in-loop-j : goal.slice_bounds-tc8psk_byte-start-in-loop-j
slice_bounds-tc8psk_byte-start-in-loop-j c = (packing_bounds c.loop-j.invariant.1 c.loop-j-test.true).im_start

pub slice_bounds-tc8psk_byte-end-in-loop-j : goal.slice_bounds-tc8psk_byte-end-in-loop-j
slice_bounds-tc8psk_byte-end-in-loop-j c = le_refl _

pub slice_bounds-tc8psk_byte-count-in-loop-j-2 : goal.slice_bounds-tc8psk_byte-count-in-loop-j-2
slice_bounds-tc8psk_byte-count-in-loop-j-2 c = (packing_bounds c.loop-j.invariant.1 c.loop-j-test.true).bits_start

pub slice_bounds-tc8psk_byte-start-in-loop-j-2 : goal.slice_bounds-tc8psk_byte-start-in-loop-j-2
slice_bounds-tc8psk_byte-start-in-loop-j-2 c = (packing_bounds c.loop-j.invariant.1 c.loop-j-test.true).bits_start

pub slice_bounds-tc8psk_byte-end-in-loop-j-2 : goal.slice_bounds-tc8psk_byte-end-in-loop-j-2
slice_bounds-tc8psk_byte-end-in-loop-j-2 c = le_refl _

pub tc8psk_byte-b-requires : goal.tc8psk_byte-b-requires
tc8psk_byte-b-requires c =
    let tested = c in
    let inv = tested.loop-j.invariant in
    let asks = packing_asks inv.1 tested.loop-j-test.true in
    (inv.0, asks.0, asks.1, asks.2, asks.3, asks.4)

pub bounds-bytes-j : goal.bounds-bytes-j
bounds-bytes-j c = (packing_bounds c.loop-j.invariant.1 c.loop-j-test.true).within

pub overflow_step-j : goal.overflow_step-j
overflow_step-j c = record { fits = (packing_bounds c.loop-j.invariant.1 c.loop-j-test.true).next_small }

pub loop-j-smaller : goal.loop-j-smaller
loop-j-smaller c = fewer c.loop-j-test.true

pub loop-j-preserved : goal.loop-j-preserved
loop-j-preserved c =
    let tested = c in
    let inv = tested.loop-j.invariant in
    let n = c.tc8psk_byte-b.ensures in
    (inv.0, packing_next inv.1 tested.loop-j-test.true n.0 n.1 n.2)

pub shape_of-bytes : goal.shape_of-bytes
shape_of-bytes c = c.loop-j.invariant.1.same

pub returns : goal.returns
returns c = packing_last c.loop-j.invariant.1 c.loop-j-test.false
