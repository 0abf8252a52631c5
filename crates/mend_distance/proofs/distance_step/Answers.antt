use mathlib.Core.Path.{◌≡◌, refl}
use Prim.Native.Nat.{◌+◌, ◌-◌, ◌*◌, ◌<◌}
use native.Mathlib.Omega.{arith}
use Rattle.mend_distance.proofs.Ways.{stepped_none, stepped_more, stepped_whole}
use Rattle.mend_distance.proofs.distance_step.Goals as goal

pub loop-k-init : goal.loop-k-init
loop-k-init c =
    let start = c in
    let a = start.args in
    (c.states-n.ensures.0, omega arith, refl, stepped_none a.d.now (2 * a.x + a.y) a.d.now c.states-n.ensures.1)

pub loop-k-preserved : goal.loop-k-preserved
loop-k-preserved c =
    let way = c in
    let at = way in
    let start = at in
    let a = start.args in
    let inv = at.loop-k.invariant in
    let k = at.loop-k.k in
    let h : k < 64 = omega arith in (
      inv.0,
      omega arith,
      inv.2,
      stepped_more a.d.now (2 * a.x + a.y) k at.loop-k.d at.loop-k.w inv.3 h _ _ _ _ _
          way.way-even.ensures c.way-odd.ensures c.min.ensures c.min-in-loop-k.ensures c.beats.ensures,
    )

pub returns : goal.returns
returns c =
    let at = c in
    let a = at.args in
    let e : at.loop-k.k ≡ 64 = omega arith in
    stepped_whole a.d.now (2 * a.x + a.y) at.loop-k.d at.loop-k.w (rw e at at.loop-k.invariant.3)
