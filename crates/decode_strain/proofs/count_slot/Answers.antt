-- `count_slot` meets its contract.
use native.Mathlib.Omega.{arith}
use Prim.Native.Nat.{◌+◌, ◌-◌, ◌≤◌}
use lib.ListN.{length-drop}
use lib.Seq.{get_or-drop}
use Rattle.isdbs_metrics.specs.FrameRunLaws.{tail_is}
use Rattle.decode_strain.specs.CountingLaws.{count_few}
use Rattle.decode_strain.proofs.WindowLaws.{windows_few, slot_counted}
use Rattle.decode_strain.proofs.count_slot.Goals as goal

pub count_steps-first-requires : goal.count_steps-first-requires
count_steps-first-requires c =
    let start = c in
    let a = start.requires.2 in
    let b = start.requires.3 in
    (start.requires.0, omega arith, omega arith, omega arith, λ i h. start.requires.4 i (omega arith), start.requires.5)

pub count_rest-rest-requires : goal.count_rest-rest-requires
count_rest-rest-requires c =
    let start = c in
    let f = start.requires.1 in
    let a = start.requires.2 in
    let b = start.requires.3 in
    (omega arith, omega arith, omega arith, λ i h. start.requires.4 i (omega arith))

pub six_state-state-requires : goal.six_state-state-requires
six_state-state-requires c =
    let start = c in
    let us = start.args.bits.now in
    let from = start.args.n - 6 in
    let b = start.requires.3 in
    let d = length-drop from us in
    rw (tail_is from us) (omega arith, λ i h. rw (get_or-drop from us i 0) (start.requires.4 (from + i) (omega arith)))

pub overflow_add-result : goal.overflow_add-result
overflow_add-result c =
    let rest = c in
    let steps = rest in
    let start = steps in
    let ms = start.args.marks.now in
    let us = start.args.bits.now in
    let f = start.requires.1 in
    let few = count_few ms us start.args.start 6 steps.count_steps-first.result steps.count_steps-first.ensures in
    let others : rest.count_rest-rest.result ≤ start.args.n - 6 = rw rest.count_rest-rest.ensures (windows_few ms us (start.args.n - 6)) in
    record { fits = omega arith }

pub returns : goal.returns
returns c =
    let rest = c in
    let steps = rest in
    let start = steps in
    let ms = start.args.marks.now in
    let us = start.args.bits.now in
    let n = start.args.n in
    let state = rw (tail_is (n - 6) us) at c.six_state-state.ensures in
    slot_counted ms us start.args.start n steps.count_steps-first.result rest.count_rest-rest.result c.six_state-state.result start.requires.5 (omega arith) start.requires.4 steps.count_steps-first.ensures rest.count_rest-rest.ensures state
