use Prim.Native.Nat.{◌-◌}
use native.Mathlib.Nat.{le_refl, div-le_self}
use lib.ListN.{length}
use Rattle.encode_run.proofs.EncodeQpsk.{room, pattern_within, outputs_of, at_most, fewer, encoding_first, encoding_bounds, encoding_next, encoding_left, qpsk_end}
use Rattle.encode_run.proofs.encode_qpsk.Goals as goal

pub pattern_of-p-requires : goal.pattern_of-p-requires
pattern_of-p-requires c = tt

pub shifts-s1-requires : goal.shifts-s1-requires
shifts-s1-requires c = c.pattern_of-p.ensures.short

pub shifts-s0-requires : goal.shifts-s0-requires
shifts-s0-requires c = c.pattern_of-p.ensures.short

pub qpsk_table-t-requires : goal.qpsk_table-t-requires
qpsk_table-t-requires c = tt

pub nonzero_div-periods : goal.nonzero_div-periods
nonzero_div-periods c = c.pattern_of-p.ensures.some

pub reversed-state-requires : goal.reversed-state-requires
reversed-state-requires c = tt

pub loop-q-init : goal.loop-q-init
loop-q-init c =
    let pattern-of = c in
    let st = pattern-of in
    let p = pattern-of.pattern_of-p.result in
    let ok = pattern-of.pattern_of-p.ensures in
    encoding_first ok.few (div-le_self st.args.n p.period) st.requires.2
    (room st.args.c p ok st.args.n (length st.args.re.now) (length st.args.im.now) st.requires.0 st.requires.4 st.requires.5) st.requires.1 c.reversed-state.ensures.0 c.reversed-state.ensures.1

pub overflow_add-bit : goal.overflow_add-bit
overflow_add-bit c = record { fits = (encoding_bounds c.loop-q.invariant c.loop-q-test.true).bit_small }

pub encode_period-e-requires : goal.encode_period-e-requires
encode_period-e-requires c =
    let pattern-of = c in
    let inv = c.loop-q.invariant in
    (inv.small, pattern-of.pattern_of-p.ensures.short, (encoding_bounds inv c.loop-q-test.true).under)

pub offset_bounds-re-j : goal.offset_bounds-re-j
offset_bounds-re-j c = record { fits = (encoding_bounds c.loop-q.invariant c.loop-q-test.true).scaled_small }

pub slice_bounds-put_pairs-count : goal.slice_bounds-put_pairs-count
slice_bounds-put_pairs-count c = (encoding_bounds c.loop-q.invariant c.loop-q-test.true).re_start

pub slice_bounds-put_pairs-start : goal.slice_bounds-put_pairs-start
slice_bounds-put_pairs-start c = (encoding_bounds c.loop-q.invariant c.loop-q-test.true).re_start

pub slice_bounds-put_pairs-end : goal.slice_bounds-put_pairs-end
slice_bounds-put_pairs-end c = le_refl _

pub offset_bounds-im-j : goal.offset_bounds-im-j
offset_bounds-im-j c = record { fits = (encoding_bounds c.loop-q.invariant c.loop-q-test.true).scaled_small }

pub slice_bounds-put_pairs-count-in-loop-q : goal.slice_bounds-put_pairs-count-in-loop-q
slice_bounds-put_pairs-count-in-loop-q c = (encoding_bounds c.loop-q.invariant c.loop-q-test.true).im_start

pub slice_bounds-put_pairs-start-in-loop-q : goal.slice_bounds-put_pairs-start-in-loop-q
slice_bounds-put_pairs-start-in-loop-q c = (encoding_bounds c.loop-q.invariant c.loop-q-test.true).im_start

pub slice_bounds-put_pairs-end-in-loop-q : goal.slice_bounds-put_pairs-end-in-loop-q
slice_bounds-put_pairs-end-in-loop-q c = le_refl _

pub put_pairs-requires : goal.put_pairs-requires
put_pairs-requires c =
    let tested = c in
    let shifts2 = tested in
    let shifts = shifts2 in
    let pattern-of = shifts in
    let start = pattern-of in
    let bounds = encoding_bounds tested.loop-q.invariant tested.loop-q-test.true in
    let p = pattern-of.pattern_of-p.result in
    let ok = pattern-of.pattern_of-p.ensures in
    let w = pattern_within start.args.c p ok in
    let o1 = outputs_of p.period p.count p.p1 shifts.shifts-s1.result ok.short ok.few shifts.shifts-s1.ensures (λ i l. (w i l).0) in
    let o0 = outputs_of p.period p.count p.p0 shifts2.shifts-s0.result ok.short ok.few shifts2.shifts-s0.ensures (λ i l. (w i l).1) in
    (ok.few, bounds.re_room, bounds.im_room, at_most p.period p.count shifts.shifts-s1.result o1, at_most p.period p.count shifts2.shifts-s0.result o0)

pub overflow_add-done : goal.overflow_add-done
overflow_add-done c = record { fits = (encoding_bounds c.loop-q.invariant c.loop-q-test.true).done_small }

pub overflow_add-j : goal.overflow_add-j
overflow_add-j c = record { fits = (encoding_bounds c.loop-q.invariant c.loop-q-test.true).points_small }

pub overflow_step-q : goal.overflow_step-q
overflow_step-q c = record { fits = (encoding_bounds c.loop-q.invariant c.loop-q-test.true).turn_small }

pub loop-q-smaller : goal.loop-q-smaller
loop-q-smaller c = fewer c.loop-q-test.true

pub loop-q-preserved : goal.loop-q-preserved
loop-q-preserved c =
    let put-pairs = c in
    let encode-period = put-pairs in
    let tested = encode-period in
    let at = tested in
    let shifts2 = at in
    let shifts = shifts2 in
    let pattern-of = shifts in
    let st = pattern-of in
    let p = pattern-of.pattern_of-p.result in
    let ok = pattern-of.pattern_of-p.ensures in
    let w = pattern_within st.args.c p ok in
    let o1 = outputs_of p.period p.count p.p1 shifts.shifts-s1.result ok.short ok.few shifts.shifts-s1.ensures (λ i l. (w i l).0) in
    let o0 = outputs_of p.period p.count p.p0 shifts2.shifts-s0.result ok.short ok.few shifts2.shifts-s0.ensures (λ i l. (w i l).1) in
    encoding_next at.loop-q.invariant tested.loop-q-test.true o1 o0 encode-period.encode_period-e.result encode-period.encode_period-e.ensures encode-period.encode_period-e.ensures.small
    put-pairs.put_pairs.ensures.0 put-pairs.put_pairs.ensures.1

pub reversed-requires : goal.reversed-requires
reversed-requires c = tt

pub shape_of-re : goal.shape_of-re
shape_of-re c = c.loop-q.invariant.going.points.re_length

pub shape_of-im : goal.shape_of-im
shape_of-im c = c.loop-q.invariant.going.points.im_length

pub returns : goal.returns
returns c =
    let qpsk-table = c in
    let shifts2 = qpsk-table in
    let shifts = shifts2 in
    let pattern-of = shifts in
    let st = pattern-of in
    let inv = c.loop-q.invariant in
    let p = pattern-of.pattern_of-p.result in
    let t = qpsk-table.qpsk_table-t in
    qpsk_end st.args.c p pattern-of.pattern_of-p.ensures shifts.shifts-s1.result shifts2.shifts-s0.result shifts.shifts-s1.ensures shifts2.shifts-s0.ensures
    st.args.m t.result t.ensures st.args.bytes.now st.args.bit st.args.n st.args.start st.requires.0
    (rw (← c.reversed.ensures.0) at inv.going) c.loop-q.q (encoding_left inv c.loop-q-test.false) inv.done_is inv.points_are st.requires.3
