use mathlib.Core.Path.{◌≡◌, refl, ◌∙◌}
use Prim.Native.Nat.{◌+◌, ◌-◌, ◌*◌, ◌<◌, ◌≤◌}
use native.Mathlib.Omega.{arith}
use borrow.Author.Rules.{rules}
use lib.ListN.{length, set, length-set}
use Rattle.trellis.specs.Code.{state_at}
use Rattle.short_encode.proofs.Turn.{turn, whole, state_next, state_last}
use Rattle.short_encode.proofs.encode_all.Goals as goal

pub loop-i-init : goal.loop-i-init
unfolding state_at
loop-i-init c = (refl, omega arith, search rules, refl, refl, refl)

pub bounds-out-i-in-loop-i : goal.bounds-out-i-in-loop-i
bounds-out-i-in-loop-i c =
    let at = c in
    let l = length-set at.loop-i.out (2 * at.loop-i.i) c.encode_bit-c.result.x in
    omega arith

pub loop-i-preserved : goal.loop-i-preserved
loop-i-preserved c =
    let at = c in
    let start = at in
    let a = start.args in
    let us = a.bits.now in
    let room : 2 * length us ≤ length a.out.now = start.requires.4 in
    let i = at.loop-i.i in
    let inv = at.loop-i.invariant in
    let x = c.encode_bit-c.result.x in
    let y = c.encode_bit-c.result.y in
    let e = c.encode_bit-c.ensures in
    let half_is = start.requires.2.half_is in
    let inside : i < length us = omega arith in (
      inv.0,
      omega arith,
      e.3,
      state_next a.code a.h a.state us i at.loop-i.s _ half_is inv.3 e.2,
      length-set (set at.loop-i.out (2 * i) x) (2 * i + 1) y ∙ length-set at.loop-i.out (2 * i) x ∙ inv.4,
      turn a.code a.state us a.out.now room i x y at.loop-i.out inside inv.5 (rw inv.3 at e.0) (rw inv.3 at e.1),
    )

pub shape_of-out : goal.shape_of-out
shape_of-out c = c.loop-i.invariant.4

pub returns : goal.returns
returns c =
    let at = c in
    let start = at in
    let a = start.args in
    let n = length a.bits.now in
    let e : at.loop-i.i ≡ n = omega arith in
    let inv = rw e at at.loop-i.invariant in
    (inv.3 ∙ state_last a.code a.state a.bits.now, inv.5 ∙ whole a.code a.state a.bits.now a.out.now start.requires.4)
