use mathlib.Core.Path.{◌≡◌, refl, sym, ◌∙◌}
use Prim.Native.Nat.{◌-◌}
use native.Mathlib.Omega.{arith}
use borrow.Author.Rules.{rules}
use Rattle.isdbt_steps.proofs.Spread.{found_hit, found_miss, found_end}
use Rattle.isdbt_steps.proofs.sent_as.Goals as goal

pub loop-i-init : goal.loop-i-init
loop-i-init c = (search rules, refl)

pub returns-then-order-i : goal.returns-then-order-i
returns-then-order-i c =
    let at = c in
    let a = at.args in
    sym (at.loop-i.invariant.1 ∙ found_hit a.order.now a.n a.place at.requires.1 at.loop-i.i (search rules) c.if-order-i.true)

pub loop-i-preserved : goal.loop-i-preserved
loop-i-preserved c =
    let at = c in
    let a = at.args in
    (omega arith, at.loop-i.invariant.1 ∙ found_miss a.order.now a.n a.place at.requires.1 at.loop-i.i (search rules) c.if-order-i.false)

pub returns : goal.returns
returns c =
    let at = c in
    let a = at.args in
    let e : at.loop-i.i ≡ a.n = omega arith in
    sym (rw e at at.loop-i.invariant.1 ∙ found_end a.order.now a.n a.place at.requires.1)
