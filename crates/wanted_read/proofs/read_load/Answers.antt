use Prim.Native.Nat.{◌-◌}
use native.Mathlib.Omega.{arith}
use lib.ListN.{length-drop}
use Rattle.isdbs_metrics.specs.FrameRunLaws.{listed_runs, tail_is}
use Rattle.wanted_read.proofs.Frames.{load_first, load_room, load_next, load_last}
use Rattle.wanted_read.proofs.read_load.Goals as goal

pub loop-i-init : goal.loop-i-init
loop-i-init c =
    let a = c in
    load_first (listed_runs a.args.p a.requires.1) a.requires.0 a.requires.2 a.requires.3 a.requires.4

pub offset_bounds-list-i : goal.offset_bounds-list-i
offset_bounds-list-i c = let f = c.loop-i.invariant.listed.runs.few in let l = c.loop-i-test.true in record { fits = omega arith }

pub bounds-list-i : goal.bounds-list-i
bounds-list-i c = let f = c.loop-i.invariant.listed.runs.few in let l = c.loop-i-test.true in omega arith

pub overflow_mul-n : goal.overflow_mul-n
overflow_mul-n c = let f = c.loop-i.invariant.few in record { fits = omega arith }

pub slice_bounds-read_run-count : goal.slice_bounds-read_run-count
slice_bounds-read_run-count c = let w = c.loop-i.invariant in let x = w.bytes_fit in let y = w.load_fits in let z = w.same in omega arith

pub read_run-state-requires : goal.read_run-state-requires
read_run-state-requires c =
    let looped = c in
    let start = looped in
    let at = looped.loop-i in
    let w = at.invariant in
    let f = w.few in
    let x = w.bytes_fit in
    let y = w.load_fits in
    let z = w.same in
    let d = length-drop at.done at.bytes in
    let s = w.small in
    let r = start.requires.0 in
    (omega arith, omega arith, load_room w, w.re_fits, w.im_fits, rw (tail_is at.done at.bytes) (omega arith))

pub overflow_add-done : goal.overflow_add-done
overflow_add-done c =
    let at = c in
    let w = at.loop-i.invariant in
    let f = w.bytes_fit in
    let n = w.load_few in
    record { fits = omega arith }

pub overflow_step-i : goal.overflow_step-i
overflow_step-i c =
    let tested = c in
    let at = tested in
    let f = at.loop-i.invariant.listed.runs.few in
    let l = tested.loop-i-test.true in
    record { fits = omega arith }

pub loop-i-preserved : goal.loop-i-preserved
loop-i-preserved c =
    let tested = c in
    let at = tested in
    let rr = c.read_run-state.ensures in
    load_next at.loop-i.invariant tested.loop-i-test.true rr.2 rr.1 rr.0

pub shape_of-bytes : goal.shape_of-bytes
shape_of-bytes c = c.loop-i.invariant.same

pub returns : goal.returns
returns c = load_last c.loop-i.invariant (omega arith)
