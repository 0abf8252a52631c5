use Rattle.isdbs_metrics.specs.FrameRunLaws.{listed_runs, steps_by_lem, part_covers, tail_is}
use Rattle.decode_all.proofs.FrameSteps.{run_periods}
use Rattle.best_metrics.proofs.FrameMetrics.{written_first, written_next, written_last}
use Rattle.isdbs_plan.specs.RunsOf.{no_run}
use lib.ListN.{get_or, length-drop}
use lib.Ieee.{nan}
use native.Mathlib.Omega.{arith}
use Prim.Native.Nat.{ℕ, ◌-◌, ◌*◌}
use mathlib.Core.Path.{ap}
use Rattle.best_metrics.proofs.frame_metrics.Goals as goal

pub loop-i-init : goal.loop-i-init
loop-i-init c = let st = c in written_first (listed_runs st.args.p st.requires.0) st.requires.3

pub overflow_mul-n : goal.overflow_mul-n
overflow_mul-n c =
    let at = c in
    let start = at in
    let e = steps_by_lem (get_or start.args.p.runs at.loop-i.i no_run) _ c.steps_per_slot.ensures in
    record { fits = omega arith }

pub overflow_mul-from : goal.overflow_mul-from
overflow_mul-from c = let at = c.loop-i in
    let f = at.invariant.run.steps_fit in
    let ls = at.invariant.run.runs.steps in
    record { fits = omega arith }

pub slice_bounds-run_metrics-count-in-loop-i-2 : goal.slice_bounds-run_metrics-count-in-loop-i-2
slice_bounds-run_metrics-count-in-loop-i-2 c = let at = c.loop-i in
    let f = at.invariant.run.steps_fit in
    let g = at.invariant.fits in
    let s = at.invariant.filled.same in
    omega arith

pub slice_bounds-run_metrics-start-in-loop-i-2 : goal.slice_bounds-run_metrics-start-in-loop-i-2
slice_bounds-run_metrics-start-in-loop-i-2 c = let at = c.loop-i in
    let f = at.invariant.run.steps_fit in
    let g = at.invariant.fits in
    let s = at.invariant.filled.same in
    omega arith

pub run_metrics-requires : goal.run_metrics-requires
run_metrics-requires c =
    let steps-per-slot = c in
    let looped = steps-per-slot in
    let st = looped in
    let at = looped.loop-i in
    let e = steps_by_lem (get_or st.args.p.runs at.i no_run) _ steps-per-slot.steps_per_slot.ensures in
    let w = at.invariant in
    let f = w.run.steps_fit in
    let g = w.fits in
    let s = w.filled.same in
    let ls = w.run.runs.steps in
    let d = length-drop (4 * at.step) at.metrics in (
      run_periods (get_or st.args.p.runs at.i no_run) _ (w.run.runs.whole at.i) e,
      omega arith,
      rw (tail_is (4 * at.step) at.metrics) (omega arith),
      part_covers _ _ w.run.runs _ st.args.re.now _ st.requires.1 e,
      part_covers _ _ w.run.runs _ st.args.im.now _ st.requires.2 e,
    )

pub overflow_add-step : goal.overflow_add-step
overflow_add-step c =
    let steps-per-slot = c in
    let looped = steps-per-slot in
    let st = looped in
    let at = looped.loop-i in
    let e = steps_by_lem (get_or st.args.p.runs at.i no_run) _ steps-per-slot.steps_per_slot.ensures in
    let w = at.invariant in
    let f = w.run.steps_fit in
    let g = w.fits in
    let s = w.filled.same in
    let ls = w.run.runs.steps in
    record { fits = omega arith }

pub loop-i-preserved : goal.loop-i-preserved
loop-i-preserved c =
    let scale-place = c in
    let steps-per-slot = scale-place in
    let tested = steps-per-slot in
    let looped = tested in
    let st = looped in
    let at = looped.loop-i in
    let e = steps_by_lem (get_or st.args.p.runs at.i no_run) _ steps-per-slot.steps_per_slot.ensures in
    let w = at.invariant in
    let f = w.run.steps_fit in
    let g = w.fits in
    let s = w.filled.same in
    let ls = w.run.runs.steps in
    let l = tested.loop-i-test.true in
    let x = ap (λ (k : ℕ). get_or st.args.scales k nan) scale-place.scale_place-place.ensures.0 in
    written_next w l e _ x c.run_metrics.ensures

pub shape_of-metrics : goal.shape_of-metrics
shape_of-metrics c = c.loop-i.invariant.filled.same

pub returns : goal.returns
returns c = let st = c in
    written_last (listed_runs st.args.p st.requires.0) c.loop-i.invariant (omega arith)
