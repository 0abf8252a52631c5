use Rattle.isdbs_metrics.specs.FrameRunLaws.{listed_runs, steps_by_lem, tail_is}
use Rattle.best_bytes.proofs.BytesWritten.{written_first, written_next, written_last}
use Rattle.best_bytes.specs.Packed.{steps_room, drop_bits}
use Rattle.isdbs_plan.specs.RunsOf.{no_run}
use lib.ListN.{get_or, length-drop}
use native.Mathlib.Omega.{arith}
use mathlib.Core.Path.{refl}
use Prim.Native.Nat.{◌-◌}
use Rattle.best_bytes.proofs.write_load.Goals as goal

pub loop-i-init : goal.loop-i-init
loop-i-init c = let st = c in written_first (listed_runs st.args.p st.requires.0) st.requires.1 st.requires.2 st.requires.5

pub overflow_mul-n : goal.overflow_mul-n
overflow_mul-n c =
    let at = c.loop-i in
    let w = at.invariant in
    let o = w.some in
    let f = w.run.steps_fit in
    let g = w.fits in
    let s = w.filled.same in
    let y = w.read in
    let z = w.beside in
    let ls = w.run.runs.steps in
    let lv = w.run.runs.valid in
    record { fits = omega arith }

pub overflow_mul-steps : goal.overflow_mul-steps
overflow_mul-steps c =
    let looped = c in
    let st = looped in
    let at = looped.loop-i in
    let e = steps_by_lem (get_or st.args.p.runs at.i no_run) _ c.steps_per_slot.ensures in
    let w = at.invariant in
    let o = w.some in
    let f = w.run.steps_fit in
    let g = w.fits in
    let s = w.filled.same in
    let y = w.read in
    let z = w.beside in
    let ls = w.run.runs.steps in
    let lv = w.run.runs.valid in
    record { fits = omega arith }

pub slice_bounds-pack_run-count : goal.slice_bounds-pack_run-count
slice_bounds-pack_run-count c =
    let looped = c in
    let st = looped in
    let at = looped.loop-i in
    let e = steps_by_lem (get_or st.args.p.runs at.i no_run) _ c.steps_per_slot.ensures in
    let w = at.invariant in
    let o = w.some in
    let f = w.run.steps_fit in
    let g = w.fits in
    let s = w.filled.same in
    let y = w.read in
    let z = w.beside in
    let ls = w.run.runs.steps in
    let lv = w.run.runs.valid in
    omega arith

pub slice_bounds-pack_run-start : goal.slice_bounds-pack_run-start
slice_bounds-pack_run-start c =
    let looped = c in
    let st = looped in
    let at = looped.loop-i in
    let e = steps_by_lem (get_or st.args.p.runs at.i no_run) _ c.steps_per_slot.ensures in
    let w = at.invariant in
    let o = w.some in
    let f = w.run.steps_fit in
    let g = w.fits in
    let s = w.filled.same in
    let y = w.read in
    let z = w.beside in
    let ls = w.run.runs.steps in
    let lv = w.run.runs.valid in
    omega arith

pub slice_bounds-pack_run-count-in-loop-i : goal.slice_bounds-pack_run-count-in-loop-i
slice_bounds-pack_run-count-in-loop-i c =
    let looped = c in
    let st = looped in
    let at = looped.loop-i in
    let e = steps_by_lem (get_or st.args.p.runs at.i no_run) _ c.steps_per_slot.ensures in
    let w = at.invariant in
    let o = w.some in
    let f = w.run.steps_fit in
    let g = w.fits in
    let s = w.filled.same in
    let y = w.read in
    let z = w.beside in
    let ls = w.run.runs.steps in
    let lv = w.run.runs.valid in
    omega arith

pub slice_bounds-pack_run-start-in-loop-i : goal.slice_bounds-pack_run-start-in-loop-i
slice_bounds-pack_run-start-in-loop-i c =
    let looped = c in
    let st = looped in
    let at = looped.loop-i in
    let e = steps_by_lem (get_or st.args.p.runs at.i no_run) _ c.steps_per_slot.ensures in
    let w = at.invariant in
    let o = w.some in
    let f = w.run.steps_fit in
    let g = w.fits in
    let s = w.filled.same in
    let y = w.read in
    let z = w.beside in
    let ls = w.run.runs.steps in
    let lv = w.run.runs.valid in
    omega arith

pub slice_bounds-pack_run-count-in-loop-i-2 : goal.slice_bounds-pack_run-count-in-loop-i-2
slice_bounds-pack_run-count-in-loop-i-2 c =
    let looped = c in
    let st = looped in
    let at = looped.loop-i in
    let e = steps_by_lem (get_or st.args.p.runs at.i no_run) _ c.steps_per_slot.ensures in
    let w = at.invariant in
    let o = w.some in
    let f = w.run.steps_fit in
    let g = w.fits in
    let s = w.filled.same in
    let y = w.read in
    let z = w.beside in
    let ls = w.run.runs.steps in
    let lv = w.run.runs.valid in
    omega arith

pub slice_bounds-pack_run-start-in-loop-i-2 : goal.slice_bounds-pack_run-start-in-loop-i-2
slice_bounds-pack_run-start-in-loop-i-2 c =
    let looped = c in
    let st = looped in
    let at = looped.loop-i in
    let e = steps_by_lem (get_or st.args.p.runs at.i no_run) _ c.steps_per_slot.ensures in
    let w = at.invariant in
    let o = w.some in
    let f = w.run.steps_fit in
    let g = w.fits in
    let s = w.filled.same in
    let y = w.read in
    let z = w.beside in
    let ls = w.run.runs.steps in
    let lv = w.run.runs.valid in
    omega arith

pub pack_run-requires : goal.pack_run-requires
pack_run-requires c =
    let steps-per-slot = c in
    let looped = steps-per-slot in
    let st = looped in
    let at = looped.loop-i in
    let e = steps_by_lem (get_or st.args.p.runs at.i no_run) _ steps-per-slot.steps_per_slot.ensures in
    let w = at.invariant in
    let o = w.some in
    let f = w.run.steps_fit in
    let g = w.fits in
    let s = w.filled.same in
    let y = w.read in
    let z = w.beside in
    let ls = w.run.runs.steps in
    let lv = w.run.runs.valid in
    let d = length-drop at.done at.bytes in
    let du = length-drop at.step st.args.bits.now in
    let dz = length-drop at.step st.args.uncoded.now in (
      omega arith,
      rw (tail_is at.step st.args.bits.now, tail_is at.step st.args.uncoded.now) (steps_room (get_or st.args.p.runs at.i no_run).combination (get_or st.args.p.runs at.i no_run).valid_slots _ _ (omega arith) (omega arith)),
      rw (tail_is at.step st.args.bits.now) (drop_bits at.step st.args.bits.now st.requires.3),
      rw (tail_is at.step st.args.uncoded.now) (drop_bits at.step st.args.uncoded.now st.requires.4),
      rw (tail_is at.done at.bytes) (omega arith),
    )

pub overflow_add-step : goal.overflow_add-step
overflow_add-step c =
    let steps-per-slot = c in
    let looped = steps-per-slot in
    let st = looped in
    let at = looped.loop-i in
    let e = steps_by_lem (get_or st.args.p.runs at.i no_run) _ steps-per-slot.steps_per_slot.ensures in
    let w = at.invariant in
    let o = w.some in
    let f = w.run.steps_fit in
    let g = w.fits in
    let s = w.filled.same in
    let y = w.read in
    let z = w.beside in
    let ls = w.run.runs.steps in
    let lv = w.run.runs.valid in
    record { fits = omega arith }

pub overflow_add-done : goal.overflow_add-done
overflow_add-done c =
    let steps-per-slot = c in
    let looped = steps-per-slot in
    let st = looped in
    let at = looped.loop-i in
    let e = steps_by_lem (get_or st.args.p.runs at.i no_run) _ steps-per-slot.steps_per_slot.ensures in
    let w = at.invariant in
    let o = w.some in
    let f = w.run.steps_fit in
    let g = w.fits in
    let s = w.filled.same in
    let y = w.read in
    let z = w.beside in
    let ls = w.run.runs.steps in
    let lv = w.run.runs.valid in
    record { fits = omega arith }

pub loop-i-preserved : goal.loop-i-preserved
loop-i-preserved c =
    let steps-per-slot = c in
    let tested = steps-per-slot in
    let looped = tested in
    let st = looped in
    let at = looped.loop-i in
    let e = steps_by_lem (get_or st.args.p.runs at.i no_run) _ steps-per-slot.steps_per_slot.ensures in
    let w = at.invariant in
    let o = w.some in
    let f = w.run.steps_fit in
    let g = w.fits in
    let s = w.filled.same in
    let y = w.read in
    let z = w.beside in
    let ls = w.run.runs.steps in
    let lv = w.run.runs.valid in
    let l = tested.loop-i-test.true in
    written_next w l e refl c.pack_run.ensures

pub shape_of-bytes : goal.shape_of-bytes
shape_of-bytes c = c.loop-i.invariant.filled.same

pub returns : goal.returns
returns c = let st = c in
    written_last (listed_runs st.args.p st.requires.0) c.loop-i.invariant (omega arith)
