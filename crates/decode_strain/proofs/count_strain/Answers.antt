use native.Mathlib.Nat.{le_refl}
use native.Mathlib.Omega.{arith}
use Prim.Native.Nat.{◌-◌}
use mathlib.Core.Path.{◌≡◌, ◌∙◌}
use lib.ListN.{get_or, take, length}
use Rattle.isdbs_plan.specs.declared.Plan.{Plan}
use Rattle.isdbs_plan.specs.RunsOf.{Planned}
use Rattle.isdbs_metrics.specs.FrameRunLaws.{Listed}
use Rattle.isdbs_plan.specs.RunsOf.{no_run}
use Rattle.isdbs_metrics.specs.FrameRunLaws.{walked_runs, walked_count, steps_by_lem, all_valid, fewer, run_number_lem, run_steps_lem}
use Rattle.strain_marks.specs.Slots.{by_slot}
use Rattle.decode_strain.proofs.Frames.{slot_steps_few, done_first, done_room, done_bounds, done_small, done_next}
use Rattle.decode_strain.proofs.count_strain.Goals as goal

-- the runs that the loop walks, by their number
runs_here : (p : Plan) → Planned p → Listed p.table (length (take p.count p.runs)) (take p.count p.runs)
runs_here p h = rw (walked_count p h) (walked_runs p h)

pub labels-labels-requires : goal.labels-labels-requires
labels-labels-requires c = tt

pub loop-r-init : goal.loop-r-init
loop-r-init c =
    let st = c in
    done_first (runs_here st.args.p st.requires.1) st.requires.0 st.requires.2 st.requires.3 st.requires.4 st.requires.5

pub steps_per_slot-w-requires : goal.steps_per_slot-w-requires
steps_per_slot-w-requires c = tt

pub slice_bounds-count_run-count : goal.slice_bounds-count_run-count
slice_bounds-count_run-count c = (done_bounds c.loop-r.invariant).marks_start

pub slice_bounds-count_run-start : goal.slice_bounds-count_run-start
slice_bounds-count_run-start c = (done_bounds c.loop-r.invariant).marks_start

pub slice_bounds-count_run-end : goal.slice_bounds-count_run-end
slice_bounds-count_run-end c = le_refl _

pub slice_bounds-count_run-count-in-loop-r : goal.slice_bounds-count_run-count-in-loop-r
slice_bounds-count_run-count-in-loop-r c = (done_bounds c.loop-r.invariant).bits_start

pub slice_bounds-count_run-start-in-loop-r : goal.slice_bounds-count_run-start-in-loop-r
slice_bounds-count_run-start-in-loop-r c = (done_bounds c.loop-r.invariant).bits_start

pub slice_bounds-count_run-end-in-loop-r : goal.slice_bounds-count_run-end-in-loop-r
slice_bounds-count_run-end-in-loop-r c = le_refl _

pub offset_bounds-counts-done : goal.offset_bounds-counts-done
offset_bounds-counts-done c = record { fits = (done_bounds c.loop-r.invariant).scaled_small }

pub slice_bounds-count_run-count-in-loop-r-2 : goal.slice_bounds-count_run-count-in-loop-r-2
slice_bounds-count_run-count-in-loop-r-2 c = (done_bounds c.loop-r.invariant).counts_start

pub slice_bounds-count_run-start-in-loop-r-2 : goal.slice_bounds-count_run-start-in-loop-r-2
slice_bounds-count_run-start-in-loop-r-2 c = (done_bounds c.loop-r.invariant).counts_start

pub slice_bounds-count_run-end-in-loop-r-2 : goal.slice_bounds-count_run-end-in-loop-r-2
slice_bounds-count_run-end-in-loop-r-2 c = le_refl _

pub count_run-x-requires : goal.count_run-x-requires
count_run-x-requires c =
    let steps-per-slot = c in
    let looped = steps-per-slot in
    let st = looped in
    let at = looped.loop-r in
    let sp = steps-per-slot.steps_per_slot-w in
    let few = slot_steps_few (get_or (take st.args.p.count st.args.p.runs) at.r-index no_run).combination in
    let r = done_room at.invariant in
    (looped.labels-labels.ensures, rw sp.ensures few, r.0, rw sp.ensures r.1, rw sp.ensures r.2, rw sp.ensures r.3, at.invariant.small, (done_bounds at.invariant).room)

pub overflow_add-sum : goal.overflow_add-sum
overflow_add-sum c =
    let steps-per-slot = c in
    let looped = steps-per-slot in
    let k = rw steps-per-slot.steps_per_slot-w.ensures at c.count_run-x.ensures in
    record { fits = done_small looped.loop-r.invariant k }

pub overflow_mul-step : goal.overflow_mul-step
overflow_mul-step c =
    let steps-per-slot = c in
    record { fits = (run_steps_lem steps-per-slot.loop-r.invariant.run steps-per-slot.steps_per_slot-w.ensures).0 }

pub overflow_add-step : goal.overflow_add-step
overflow_add-step c =
    let steps-per-slot = c in
    record { fits = (run_steps_lem steps-per-slot.loop-r.invariant.run steps-per-slot.steps_per_slot-w.ensures).1 }

pub overflow_add-done : goal.overflow_add-done
overflow_add-done c = record { fits = (done_bounds c.loop-r.invariant).next_small }

pub loop-r-preserved : goal.loop-r-preserved
loop-r-preserved c =
    let steps-per-slot = c in
    let tested = steps-per-slot in
    let looped = tested in
    let start = looped in
    let at = looped.loop-r in
    let sp = steps-per-slot.steps_per_slot-w in
    let k = rw sp.ensures at c.count_run-x.ensures in
    done_next at.invariant tested.loop-r-test.true (steps_by_lem (get_or (take start.args.p.count start.args.p.runs) at.r-index no_run) _ sp.ensures) k

pub shape_of-counts : goal.shape_of-counts
shape_of-counts c = c.loop-r.invariant.same

pub returns : goal.returns
unfolding by_slot
returns c =
    let st = c in
    let l = runs_here st.args.p st.requires.1 in
    let w = c.loop-r.invariant in
    let e : c.loop-r.r-index ≡ length (take st.args.p.count st.args.p.runs) = omega arith in
    let ed = (rw e at w.done_is) ∙ all_valid l in
    (rw (ed, l.listed) at w.counts_are, rw (ed, l.listed) at w.sum_is)
