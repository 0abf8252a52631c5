use mathlib.Core.Path.{◌≡◌, refl}
use Prim.Native.Nat.{◌+◌, ◌-◌, ◌*◌}
use native.Mathlib.Nat.{add-zero}
use Rattle.best_forward.specs.Room.{listed}
use Rattle.best_backward.proofs.Steps.{stepped_none, even_in, odd_in, even_fits, odd_fits, even_place, odd_place, turn_fits, turn_in, turn_less, turns, turn_state, turns_done, halved_as, stepped_more, stepped_whole}
use Rattle.best_backward.proofs.back_step.Goals as goal

pub loop-j-init : goal.loop-j-init
loop-j-init c =
    let a = c.args in
    let n = c.states-n.ensures.0 in
    (n, (turns n).0, (turns n).1, refl, refl, stepped_none a.b.now a.d.now (listed a.low.now) (listed a.kept.now) (listed a.turned.now) a.u c.states-n.ensures.1 c.states.ensures.1)

pub back_state-even-requires : goal.back_state-even-requires
back_state-even-requires c =
    let at = c in
    let p = at.requires in
    let inv = at.loop-j.invariant in
    let s = turn_state at.loop-j-test.true inv.1 in
    (p.0, s.0, s.2, p.1, halved_as inv.3 p.2, halved_as inv.4 p.3, p.4, p.5, p.6)

pub back_state-odd-requires : goal.back_state-odd-requires
back_state-odd-requires c =
    let at = c in
    let p = at.requires in
    let inv = at.loop-j.invariant in
    let s = turn_state at.loop-j-test.true inv.1 in
    (p.0, s.1, s.2, p.1, halved_as inv.3 p.2, halved_as inv.4 p.3, p.4, p.5, p.6)

pub overflow_mul-b : goal.overflow_mul-b
overflow_mul-b c = let at = c in even_fits at.loop-j-test.true at.loop-j.invariant.1

pub offset_bounds-b-j : goal.offset_bounds-b-j
offset_bounds-b-j c = let at = c in even_place at.loop-j-test.true at.loop-j.invariant.1

pub bounds-b-j : goal.bounds-b-j
bounds-b-j c = let at = c in even_in at.loop-j-test.true at.loop-j.invariant.1

pub overflow_mul-d : goal.overflow_mul-d
overflow_mul-d c = let at = c in even_fits at.loop-j-test.true at.loop-j.invariant.1

pub offset_bounds-d-j : goal.offset_bounds-d-j
offset_bounds-d-j c = let at = c in even_place at.loop-j-test.true at.loop-j.invariant.1

pub bounds-d-j : goal.bounds-d-j
bounds-d-j c = let at = c in even_in at.loop-j-test.true at.loop-j.invariant.1

pub overflow_mul-b-in-loop-j : goal.overflow_mul-b-in-loop-j
overflow_mul-b-in-loop-j c = let at = c in even_fits at.loop-j-test.true at.loop-j.invariant.1

pub overflow_add-b : goal.overflow_add-b
overflow_add-b c = let at = c in odd_fits at.loop-j-test.true at.loop-j.invariant.1

pub offset_bounds-b-j-in-loop-j : goal.offset_bounds-b-j-in-loop-j
offset_bounds-b-j-in-loop-j c = let at = c in odd_place at.loop-j-test.true at.loop-j.invariant.1

pub bounds-b-j-in-loop-j : goal.bounds-b-j-in-loop-j
bounds-b-j-in-loop-j c = let at = c in odd_in at.loop-j-test.true at.loop-j.invariant.1

pub overflow_mul-d-in-loop-j : goal.overflow_mul-d-in-loop-j
overflow_mul-d-in-loop-j c = let at = c in even_fits at.loop-j-test.true at.loop-j.invariant.1

pub overflow_add-d : goal.overflow_add-d
overflow_add-d c = let at = c in odd_fits at.loop-j-test.true at.loop-j.invariant.1

pub offset_bounds-d-j-in-loop-j : goal.offset_bounds-d-j-in-loop-j
offset_bounds-d-j-in-loop-j c = let at = c in odd_place at.loop-j-test.true at.loop-j.invariant.1

pub bounds-d-j-in-loop-j : goal.bounds-d-j-in-loop-j
bounds-d-j-in-loop-j c = let at = c in odd_in at.loop-j-test.true at.loop-j.invariant.1

pub overflow_step-j : goal.overflow_step-j
overflow_step-j c = let at = c in turn_fits at.loop-j-test.true at.loop-j.invariant.1

pub loop-j-smaller : goal.loop-j-smaller
loop-j-smaller c = let at = c in turn_less at.loop-j-test.true at.loop-j.invariant.1

pub loop-j-preserved : goal.loop-j-preserved
loop-j-preserved c =
    let even = c in
    let tested = even in
    let at = tested in
    let a = at.args in
    let inv = at.loop-j.invariant in
    let j = at.loop-j.j in
    let l = tested.loop-j-test.true in
    let next = turn_in l inv.1 in
    let z : 2 * j + 0 ≡ 2 * j = add-zero (2 * j) in
    let first = rw (inv.3, inv.4, z) at even.back_state-even.ensures in
    let second = rw (inv.3, inv.4) at c.back_state-odd.ensures in
    let half = stepped_more a.b.now a.d.now (listed a.low.now) (listed a.kept.now) (listed a.turned.now) a.u (2 * j) at.loop-j.b at.loop-j.d inv.5 (even_in l inv.1) _ _ first.0 first.1 in
    let both = stepped_more a.b.now a.d.now (listed a.low.now) (listed a.kept.now) (listed a.turned.now) a.u (2 * j + 1) _ _ half (odd_in l inv.1) _ _ second.0 second.1 in
    (inv.0, inv.1, next.0, inv.3, inv.4, rw next.1 at both)

pub returns : goal.returns
returns c =
    let at = c in
    let a = at.args in
    let e = turns_done at.loop-j.invariant.2 at.loop-j.invariant.1 c.loop-j-test.false in
    stepped_whole a.b.now a.d.now (listed a.low.now) (listed a.kept.now) (listed a.turned.now) a.u at.loop-j.b at.loop-j.d (rw e at at.loop-j.invariant.5)
