use Rattle.isdbs_metrics.specs.FrameRunLaws.{listed_runs, steps_by_lem, tail_is}
use Rattle.best_bytes.proofs.MarksWritten.{written_first, written_next, written_last, slot_few}
use Rattle.isdbs_plan.specs.RunsOf.{no_run}
use lib.ListN.{get_or, length-drop, length-set}
use mathlib.Core.Path.{refl, ◌∙◌}
use native.Mathlib.Omega.{arith}
use Prim.Native.Nat.{◌-◌}
use Rattle.best_bytes.proofs.slot_marks.Goals as goal

pub loop-i-init : goal.loop-i-init
loop-i-init c = let st = c in written_first (listed_runs st.args.p st.requires.0) st.requires.1

pub slice_bounds-run_marks-count : goal.slice_bounds-run_marks-count
slice_bounds-run_marks-count c = let st = c in
    let at = c.loop-i in
    let e = steps_by_lem (get_or st.args.p.runs at.i no_run) _ c.steps_per_slot-steps.ensures in
    let w = at.invariant in
    let o = w.some in
    let f = w.run.steps_fit in
    let g = w.fits in
    let s = w.filled.same in
    let ls = w.run.runs.steps in
    let lv = w.run.runs.valid in
    omega arith

pub slice_bounds-run_marks-start : goal.slice_bounds-run_marks-start
slice_bounds-run_marks-start c = let st = c in
    let at = c.loop-i in
    let e = steps_by_lem (get_or st.args.p.runs at.i no_run) _ c.steps_per_slot-steps.ensures in
    let w = at.invariant in
    let o = w.some in
    let f = w.run.steps_fit in
    let g = w.fits in
    let s = w.filled.same in
    let ls = w.run.runs.steps in
    let lv = w.run.runs.valid in
    omega arith

pub run_marks-requires : goal.run_marks-requires
run_marks-requires c = let st = c in
    let at = c.loop-i in
    let e = steps_by_lem (get_or st.args.p.runs at.i no_run) _ c.steps_per_slot-steps.ensures in
    let w = at.invariant in
    let o = w.some in
    let f = w.run.steps_fit in
    let g = w.fits in
    let s = w.filled.same in
    let ls = w.run.runs.steps in
    let lv = w.run.runs.valid in
    let d = length-drop at.done at.marks in
    (omega arith, slot_few (get_or st.args.p.runs at.i no_run).combination _ c.steps_per_slot-steps.ensures, rw (tail_is at.done at.marks) (omega arith))

pub overflow_mul-step : goal.overflow_mul-step
overflow_mul-step c =
    let steps-per-slot = c in
    let looped = steps-per-slot in
    let st = looped in
    let at = looped.loop-i in
    let e = steps_by_lem (get_or st.args.p.runs at.i no_run) _ steps-per-slot.steps_per_slot-steps.ensures in
    let w = at.invariant in
    let o = w.some in
    let f = w.run.steps_fit in
    let g = w.fits in
    let s = w.filled.same in
    let ls = w.run.runs.steps in
    let lv = w.run.runs.valid in
    record { fits = omega arith }

pub overflow_add-step : goal.overflow_add-step
overflow_add-step c =
    let steps-per-slot = c in
    let looped = steps-per-slot in
    let st = looped in
    let at = looped.loop-i in
    let e = steps_by_lem (get_or st.args.p.runs at.i no_run) _ steps-per-slot.steps_per_slot-steps.ensures in
    let w = at.invariant in
    let o = w.some in
    let f = w.run.steps_fit in
    let g = w.fits in
    let s = w.filled.same in
    let ls = w.run.runs.steps in
    let lv = w.run.runs.valid in
    record { fits = omega arith }

pub overflow_add-done : goal.overflow_add-done
overflow_add-done c =
    let steps-per-slot = c in
    let looped = steps-per-slot in
    let st = looped in
    let at = looped.loop-i in
    let e = steps_by_lem (get_or st.args.p.runs at.i no_run) _ steps-per-slot.steps_per_slot-steps.ensures in
    let w = at.invariant in
    let o = w.some in
    let f = w.run.steps_fit in
    let g = w.fits in
    let s = w.filled.same in
    let ls = w.run.runs.steps in
    let lv = w.run.runs.valid in
    record { fits = omega arith }

pub loop-i-preserved : goal.loop-i-preserved
loop-i-preserved c =
    let steps-per-slot = c in
    let tested = steps-per-slot in
    let looped = tested in
    let st = looped in
    let at = looped.loop-i in
    let e = steps_by_lem (get_or st.args.p.runs at.i no_run) _ steps-per-slot.steps_per_slot-steps.ensures in
    let w = at.invariant in
    let o = w.some in
    let f = w.run.steps_fit in
    let g = w.fits in
    let s = w.filled.same in
    let ls = w.run.runs.steps in
    let lv = w.run.runs.valid in
    let l = tested.loop-i-test.true in
    written_next w l steps-per-slot.steps_per_slot-steps.ensures refl c.run_marks.ensures

pub overflow_cast-marks : goal.overflow_cast-marks
overflow_cast-marks c = let w = c.loop-i.invariant in
    let o = w.some in
    let f = w.run.steps_fit in
    let g = w.fits in
    let s = w.filled.same in
    let ls = w.run.runs.steps in
    let lv = w.run.runs.valid in
    record { fits = omega arith }

pub offset_bounds-marks-done-2 : goal.offset_bounds-marks-done-2
offset_bounds-marks-done-2 c = let w = c.loop-i.invariant in
    let o = w.some in
    let f = w.run.steps_fit in
    let g = w.fits in
    let s = w.filled.same in
    let ls = w.run.runs.steps in
    let lv = w.run.runs.valid in
    record { fits = omega arith }

pub bounds-marks-done : goal.bounds-marks-done
bounds-marks-done c = let w = c.loop-i.invariant in
    let o = w.some in
    let f = w.run.steps_fit in
    let g = w.fits in
    let s = w.filled.same in
    let ls = w.run.runs.steps in
    let lv = w.run.runs.valid in
    omega arith

pub shape_of-marks : goal.shape_of-marks
shape_of-marks c = let w = c.loop-i.invariant in
    let o = w.some in
    let f = w.run.steps_fit in
    let g = w.fits in
    let s = w.filled.same in
    let ls = w.run.runs.steps in
    let lv = w.run.runs.valid in
    length-set c.loop-i.marks c.loop-i.done c.loop-i.step ∙ s

pub returns : goal.returns
returns c = let st = c in
    written_last (listed_runs st.args.p st.requires.0) c.loop-i.invariant (omega arith)
