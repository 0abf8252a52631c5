use Rattle.isdbs_metrics.specs.FrameRunLaws.{walked_runs, walked_count, steps_by_lem, part_covers, fewer, run_number_lem, run_start, start_small, run_steps_lem}
use Rattle.decode_all.proofs.FrameSteps.{run_periods, place_small, read_first, read_room, read_next, read_last}
use Rattle.decode_all.proofs.FrameMarks.{marked_first, marked_room, marked_start, marked_next, marked_last}
use Rattle.isdbs_plan.specs.RunsOf.{no_run}
use lib.ListN.{get_or, take}
use lib.Ieee.{nan}
use native.Mathlib.Nat.{le_refl}
use Prim.Native.Nat.{ℕ, ◌-◌}
use mathlib.Core.Path.{ap}
use Rattle.decode_all.proofs.read_runs.Goals as goal

pub loop-r-init : goal.loop-r-init
loop-r-init c =
    let st = c in
    let l = walked_runs st.args.p st.requires.0 in
    (read_first l st.requires.1 st.requires.2 st.requires.3 st.requires.4, marked_first l st.requires.5)

pub steps_per_slot-requires : goal.steps_per_slot-requires
steps_per_slot-requires c = tt

pub overflow_mul-n : goal.overflow_mul-n
overflow_mul-n c = record { fits = (run_steps_lem c.loop-r.invariant.0.run c.steps_per_slot.ensures).0 }

pub scale_place-place-requires : goal.scale_place-place-requires
scale_place-place-requires c = tt

pub offset_bounds-scales-place : goal.offset_bounds-scales-place
offset_bounds-scales-place c = record { fits = place_small c.scale_place-place.ensures.1 }

pub bounds-scales-place : goal.bounds-scales-place
bounds-scales-place c = c.scale_place-place.ensures.1

pub offset_bounds-re-start : goal.offset_bounds-re-start
offset_bounds-re-start c = record { fits = start_small c.loop-r.invariant.0.run }

pub slice_bounds-read_run-count : goal.slice_bounds-read_run-count
slice_bounds-read_run-count c =
    let looped = c in
    let st = looped in
    run_start looped.loop-r.invariant.0.run st.args.re.now looped.loop-r.invariant.0.re_fits

pub slice_bounds-read_run-start : goal.slice_bounds-read_run-start
slice_bounds-read_run-start c =
    let looped = c in
    let st = looped in
    run_start looped.loop-r.invariant.0.run st.args.re.now looped.loop-r.invariant.0.re_fits

pub slice_bounds-read_run-end : goal.slice_bounds-read_run-end
slice_bounds-read_run-end c = le_refl _

pub offset_bounds-im-start : goal.offset_bounds-im-start
offset_bounds-im-start c = record { fits = start_small c.loop-r.invariant.0.run }

pub slice_bounds-read_run-count-in-loop-r : goal.slice_bounds-read_run-count-in-loop-r
slice_bounds-read_run-count-in-loop-r c =
    let looped = c in
    let st = looped in
    run_start looped.loop-r.invariant.0.run st.args.im.now looped.loop-r.invariant.0.im_fits

pub slice_bounds-read_run-start-in-loop-r : goal.slice_bounds-read_run-start-in-loop-r
slice_bounds-read_run-start-in-loop-r c =
    let looped = c in
    let st = looped in
    run_start looped.loop-r.invariant.0.run st.args.im.now looped.loop-r.invariant.0.im_fits

pub slice_bounds-read_run-end-in-loop-r : goal.slice_bounds-read_run-end-in-loop-r
slice_bounds-read_run-end-in-loop-r c = le_refl _

pub slice_bounds-read_run-count-in-loop-r-2 : goal.slice_bounds-read_run-count-in-loop-r-2
slice_bounds-read_run-count-in-loop-r-2 c =
    let inv = c.loop-r.invariant in
    marked_start inv.0.run inv.1

pub slice_bounds-read_run-start-in-loop-r-2 : goal.slice_bounds-read_run-start-in-loop-r-2
slice_bounds-read_run-start-in-loop-r-2 c =
    let inv = c.loop-r.invariant in
    marked_start inv.0.run inv.1

pub slice_bounds-read_run-end-in-loop-r-2 : goal.slice_bounds-read_run-end-in-loop-r-2
slice_bounds-read_run-end-in-loop-r-2 c = le_refl _

pub read_run-at-requires : goal.read_run-at-requires
read_run-at-requires c =
    let steps-per-slot = c in
    let looped = steps-per-slot in
    let st = looped in
    let at = looped.loop-r in
    let e = steps_by_lem (get_or (take st.args.p.count st.args.p.runs) at.r-index no_run) _ steps-per-slot.steps_per_slot.ensures in
    let r = at.invariant.0 in
    let room = read_room r e in record {
      whole = run_periods (get_or (take st.args.p.count st.args.p.runs) at.r-index no_run) _ (r.run.runs.whole at.r-index) e;
      few = r.few;
      held = r.words_fit;
      room = room.0;
      kept = marked_room r.run at.invariant.1 e;
      under = room.1;
      real = part_covers _ _ r.run.runs _ st.args.re.now _ r.re_fits e;
      imaginary = part_covers _ _ r.run.runs _ st.args.im.now _ r.im_fits e;
    }

pub overflow_add-step : goal.overflow_add-step
overflow_add-step c =
    let steps-per-slot = c in
    record { fits = (run_steps_lem steps-per-slot.loop-r.invariant.0.run steps-per-slot.steps_per_slot.ensures).1 }

pub loop-r-preserved : goal.loop-r-preserved
loop-r-preserved c =
    let read-run = c in
    let scale-place = read-run in
    let steps-per-slot = scale-place in
    let tested = steps-per-slot in
    let looped = tested in
    let st = looped in
    let at = looped.loop-r in
    let l = (rw (walked_count c.args.p c.requires.0) at tested.loop-r-test.true) in
    let e = steps_by_lem (get_or (take st.args.p.count st.args.p.runs) at.r-index no_run) _ steps-per-slot.steps_per_slot.ensures in
    let x = ap (λ (k : ℕ). get_or st.args.scales k nan) scale-place.scale_place-place.ensures.0 in
    let k = read-run.read_run-at in
    (read_next at.invariant.0 l e k.auto.decisions k.auto.bits _ x k.ensures.read, marked_next at.invariant.0.run at.invariant.1 l e _ x k.ensures.marked)

pub shape_of-decisions : goal.shape_of-decisions
shape_of-decisions c = c.loop-r.invariant.0.same_words

pub shape_of-bits : goal.shape_of-bits
shape_of-bits c = c.loop-r.invariant.0.same_bits

pub shape_of-marks : goal.shape_of-marks
shape_of-marks c = c.loop-r.invariant.1.same

pub returns : goal.returns
returns c =
    let st = c in
    let l = walked_runs st.args.p st.requires.0 in
    let h = c.loop-r.invariant in
    record { read = read_last l h.0 (rw (walked_count c.args.p c.requires.0) at c.loop-r-test.false); marked = marked_last l h.0.run (rw (walked_count c.args.p c.requires.0) at c.loop-r-test.false) h.1 }
