use Rattle.decode_bytes.specs.FrameByteLaws.{written_first, written_bounds, written_room, written_next, written_last}
use Rattle.isdbs_metrics.specs.FrameRunLaws.{walked_runs, walked_count, steps_by_lem, run_start, start_small, run_steps_lem}
use Rattle.isdbs_plan.specs.RunsOf.{no_run}
use lib.ListN.{get_or, take}
use native.Mathlib.Nat.{le_refl}
use Rattle.decode_bytes.proofs.write_bytes.Goals as goal

pub loop-r-init : goal.loop-r-init
loop-r-init c =
    let st = c in
    written_first (walked_runs st.args.p st.requires.1) st.requires.0 st.requires.2 st.requires.3 st.requires.4 st.requires.5 st.requires.6

pub overflow_mul-n : goal.overflow_mul-n
overflow_mul-n c = record { fits = (written_bounds c.loop-r.invariant).bytes_small }

pub offset_bounds-re-from : goal.offset_bounds-re-from
offset_bounds-re-from c = record { fits = start_small c.loop-r.invariant.run }

pub slice_bounds-pack_run-count : goal.slice_bounds-pack_run-count
slice_bounds-pack_run-count c =
    let at = c in
    let st = at in
    run_start at.loop-r.invariant.run st.args.re.now at.loop-r.invariant.re_fits

pub slice_bounds-pack_run-start : goal.slice_bounds-pack_run-start
slice_bounds-pack_run-start c =
    let at = c in
    let st = at in
    run_start at.loop-r.invariant.run st.args.re.now at.loop-r.invariant.re_fits

pub slice_bounds-pack_run-end : goal.slice_bounds-pack_run-end
slice_bounds-pack_run-end c = le_refl _

pub offset_bounds-im-from : goal.offset_bounds-im-from
offset_bounds-im-from c = record { fits = start_small c.loop-r.invariant.run }

pub slice_bounds-pack_run-count-in-loop-r : goal.slice_bounds-pack_run-count-in-loop-r
slice_bounds-pack_run-count-in-loop-r c =
    let at = c in
    let st = at in
    run_start at.loop-r.invariant.run st.args.im.now at.loop-r.invariant.im_fits

pub slice_bounds-pack_run-start-in-loop-r : goal.slice_bounds-pack_run-start-in-loop-r
slice_bounds-pack_run-start-in-loop-r c =
    let at = c in
    let st = at in
    run_start at.loop-r.invariant.run st.args.im.now at.loop-r.invariant.im_fits

pub slice_bounds-pack_run-end-in-loop-r : goal.slice_bounds-pack_run-end-in-loop-r
slice_bounds-pack_run-end-in-loop-r c = le_refl _

pub slice_bounds-pack_run-count-in-loop-r-2 : goal.slice_bounds-pack_run-count-in-loop-r-2
slice_bounds-pack_run-count-in-loop-r-2 c = (written_bounds c.loop-r.invariant).bits_start

pub slice_bounds-pack_run-start-in-loop-r-2 : goal.slice_bounds-pack_run-start-in-loop-r-2
slice_bounds-pack_run-start-in-loop-r-2 c = (written_bounds c.loop-r.invariant).bits_start

pub slice_bounds-pack_run-end-in-loop-r-2 : goal.slice_bounds-pack_run-end-in-loop-r-2
slice_bounds-pack_run-end-in-loop-r-2 c = le_refl _

pub slice_bounds-pack_run-count-in-loop-r-3 : goal.slice_bounds-pack_run-count-in-loop-r-3
slice_bounds-pack_run-count-in-loop-r-3 c = (written_bounds c.loop-r.invariant).bytes_start

pub slice_bounds-pack_run-start-in-loop-r-3 : goal.slice_bounds-pack_run-start-in-loop-r-3
slice_bounds-pack_run-start-in-loop-r-3 c = (written_bounds c.loop-r.invariant).bytes_start

pub slice_bounds-pack_run-end-in-loop-r-3 : goal.slice_bounds-pack_run-end-in-loop-r-3
slice_bounds-pack_run-end-in-loop-r-3 c = le_refl _

pub pack_run-state-requires : goal.pack_run-state-requires
pack_run-state-requires c =
    let tested = c in
    let w = tested.loop-r.invariant in
    let b = written_bounds w in
    (w.small, b.few, written_room w (rw (walked_count c.args.p c.requires.1) at tested.loop-r-test.true), b.room)

pub steps_per_slot-requires : goal.steps_per_slot-requires
steps_per_slot-requires c = tt

pub overflow_mul-step : goal.overflow_mul-step
overflow_mul-step c =
    let at = c in
    record { fits = (run_steps_lem at.loop-r.invariant.run c.steps_per_slot.ensures).0 }

pub overflow_add-step : goal.overflow_add-step
overflow_add-step c =
    let at = c in
    record { fits = (run_steps_lem at.loop-r.invariant.run c.steps_per_slot.ensures).1 }

pub overflow_add-done : goal.overflow_add-done
overflow_add-done c = record { fits = (written_bounds c.loop-r.invariant).done_small }

pub loop-r-preserved : goal.loop-r-preserved
loop-r-preserved c =
    let pack-run = c in
    let tested = pack-run in
    let at = tested in
    let start = at in
    let pr = pack-run.pack_run-state.ensures in
    written_next at.loop-r.invariant (rw (walked_count c.args.p c.requires.1) at tested.loop-r-test.true)
    (steps_by_lem (get_or (take start.args.p.count start.args.p.runs) at.loop-r.r-index no_run) _ c.steps_per_slot.ensures) pr.2 pr.1 pr.0

pub shape_of-bytes : goal.shape_of-bytes
shape_of-bytes c = c.loop-r.invariant.same

pub returns : goal.returns
returns c =
    let st = c in
    written_last (walked_runs st.args.p st.requires.1) c.loop-r.invariant (rw (walked_count c.args.p c.requires.1) at c.loop-r-test.false)
