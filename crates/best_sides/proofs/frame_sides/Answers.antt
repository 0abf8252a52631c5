use Rattle.isdbs_metrics.specs.FrameRunLaws.{listed_runs, steps_by_lem, part_covers, tail_is}
use Rattle.best_sides.proofs.SidesWritten.{same, written_first, written_next, written_last}
use Rattle.isdbs_plan.specs.RunsOf.{no_run}
use lib.ListN.{get_or, length-drop}
use Rattle.best_sides.specs.RunSides.{room_by}
use native.Mathlib.Omega.{arith}
use Prim.Native.Nat.{◌-◌}
use Rattle.best_sides.proofs.frame_sides.Goals as goal

pub loop-i-init : goal.loop-i-init
loop-i-init c = let st = c in written_first (listed_runs st.args.p st.requires.0) st.requires.3

pub overflow_mul-n : goal.overflow_mul-n
overflow_mul-n c =
    let at = c in
    let start = at in
    let e = steps_by_lem (get_or start.args.p.runs at.loop-i.i no_run) _ c.steps_per_slot.ensures in
    record { fits = omega arith }

pub slice_bounds-run_sides-count-in-loop-i-2 : goal.slice_bounds-run_sides-count-in-loop-i-2
slice_bounds-run_sides-count-in-loop-i-2 c = let at = c.loop-i in
    let f = at.invariant.run.steps_fit in
    let g = at.invariant.fits in
    let s = same at.invariant in
    omega arith

pub slice_bounds-run_sides-start-in-loop-i-2 : goal.slice_bounds-run_sides-start-in-loop-i-2
slice_bounds-run_sides-start-in-loop-i-2 c = let at = c.loop-i in
    let f = at.invariant.run.steps_fit in
    let g = at.invariant.fits in
    let s = same at.invariant in
    omega arith

pub run_sides-requires : goal.run_sides-requires
run_sides-requires c =
    let steps-per-slot = c in
    let looped = steps-per-slot in
    let st = looped in
    let at = looped.loop-i in
    let e = steps_by_lem (get_or st.args.p.runs at.i no_run) _ steps-per-slot.steps_per_slot.ensures in
    let w = at.invariant in
    let f = w.run.steps_fit in
    let g = w.fits in
    let s = same w in
    let d = length-drop at.step at.sides in (
      room_by (get_or st.args.p.runs at.i no_run).combination _ _ _ (part_covers _ _ w.run.runs _ st.args.re.now _ st.requires.1 e) (part_covers _ _ w.run.runs _ st.args.im.now _ st.requires.2 e),
      rw (tail_is at.step at.sides) (omega arith),
    )

pub overflow_add-step : goal.overflow_add-step
overflow_add-step c =
    let steps-per-slot = c in
    let looped = steps-per-slot in
    let st = looped in
    let at = looped.loop-i in
    let e = steps_by_lem (get_or st.args.p.runs at.i no_run) _ steps-per-slot.steps_per_slot.ensures in
    let w = at.invariant in
    let f = w.run.steps_fit in
    let g = w.fits in
    let s = same w in
    let ls = w.run.runs.steps in
    record { fits = omega arith }

pub loop-i-preserved : goal.loop-i-preserved
loop-i-preserved c =
    let steps-per-slot = c in
    let tested = steps-per-slot in
    let looped = tested in
    let st = looped in
    let at = looped.loop-i in
    let e = steps_by_lem (get_or st.args.p.runs at.i no_run) _ steps-per-slot.steps_per_slot.ensures in
    let w = at.invariant in
    let f = w.run.steps_fit in
    let g = w.fits in
    let s = same w in
    let ls = w.run.runs.steps in
    let l = tested.loop-i-test.true in
    written_next w l e c.run_sides.ensures

pub shape_of-sides : goal.shape_of-sides
shape_of-sides c = same c.loop-i.invariant

pub returns : goal.returns
returns c = let st = c in
    written_last (listed_runs st.args.p st.requires.0) c.loop-i.invariant (omega arith)
