use mathlib.Core.Path.{◌≡◌, refl}
use Prim.Native.Nat.{◌+◌, ◌-◌}
use native.Mathlib.Omega.{arith}
use native.Mathlib.Nat.{zero-add}
use Rattle.best_forward.specs.Room.{listed}
use Rattle.best_forward.proofs.Ways.{stepped_none, chosen, stepped_more, stepped_small, stepped_whole}
use Rattle.best_forward.proofs.cost_step.Goals as goal

pub loop-j-init : goal.loop-j-init
loop-j-init c =
    let a = c.args in
    let n = c.states-n.ensures.0 in
    (n, omega arith, omega arith, refl, stepped_none a.d.now (listed a.m.now) a.d.now c.states-n.ensures.1)

pub loop-j-preserved : goal.loop-j-preserved
loop-j-preserved c =
    let deciding = c in
    let storing = deciding in
    let fourth = storing in
    let third = fourth in
    let second = third in
    let first = second in
    let at = first in
    let a = at.args in
    let inv = at.loop-j.invariant in
    let j = at.loop-j.j in
    let e : 0 + j ≡ j = zero-add j in (
      inv.0,
      inv.1,
      omega arith,
      inv.3,
      stepped_more a.d.now (listed a.m.now) j at.loop-j.d at.loop-j.low at.loop-j.high inv.4 (omega arith) _ _ _ _
          (chosen a.d.now (listed a.m.now) j _ _ _ _ (rw e at first.way-even.ensures) (rw e at second.way-odd.ensures) storing.min.ensures deciding.beats.ensures)
          (chosen a.d.now (listed a.m.now) (32 + j) _ _ _ _ third.way-even_above.ensures fourth.way-odd_above.ensures deciding.min-in-loop-j.ensures c.beats-in-loop-j.ensures),
    )

pub join-requires : goal.join-requires
join-requires c =
    let at = c in
    let a = at.args in
    let e : at.loop-j.j ≡ 32 = omega arith in
    stepped_small a.d.now (listed a.m.now) at.loop-j.j at.loop-j.d at.loop-j.low at.loop-j.high at.loop-j.invariant.4 e

pub returns : goal.returns
returns c =
    let at = c in
    let a = at.args in
    let e : at.loop-j.j ≡ 32 = omega arith in
    stepped_whole a.d.now (listed a.m.now) at.loop-j.j at.loop-j.d at.loop-j.low at.loop-j.high _ at.loop-j.invariant.4 e c.join.ensures
