use mathlib.Core.Path.{◌≡◌, refl, sym, ◌∙◌, ap}
use mathlib.Core.List.{List}
use Prim.Native.Nat.{ℕ, ◌-◌}
use native.Mathlib.Omega.{arith}
use borrow.Author.Rules.{rules}
use lib.ListN.{get_or}
use Rattle.trellis.specs.LaidLaws.{laid_at}
use Rattle.isdbt_table.specs.WrittenLaws.{written_none, written_next}
use Rattle.isdbt_steps.specs.Soft.{sent_as, sent_value}
use Rattle.isdbt_steps.proofs.Spread.{spread_found}
use Rattle.isdbt_steps.proofs.places_of.Goals as goal

pub loop-k-init : goal.loop-k-init
loop-k-init c =
    let a = c.args in
    (search rules, refl, written_none (sent_as a.n a.order.now) _)

pub bounds-places-k : goal.bounds-places-k
bounds-places-k c =
    let inv = c.loop-k.invariant in
    let l = inv.2.long in
    omega arith

pub loop-k-preserved : goal.loop-k-preserved
loop-k-preserved c =
    let at = c.loop-k in
    let a = c.args in
    (omega arith, at.invariant.1, written_next (sent_as a.n a.order.now) at.k _ at.places c.sent_as.result at.invariant.2 (omega arith) c.sent_as.ensures)

pub returns : goal.returns
returns c =
    let at = c.loop-k in
    let a = c.args in
    let end : at.k ≡ 14 = omega arith in
    let w = rw end at at.invariant.2 in
    λ k h xs base.
    let own = ap (λ (l : List ℕ). get_or l k 0) w.front ∙ laid_at 0 (sent_as a.n a.order.now) 14 _ k h in
    ap (λ (j : ℕ). sent_value a.n xs base j) own ∙ sym (spread_found a.order.now xs base a.n k c.requires.1)
