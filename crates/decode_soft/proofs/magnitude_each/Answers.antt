use mathlib.Core.Path.{◌≡◌, ap, ◌∙◌}
use Prim.Native.Nat.{◌-◌}
use native.Mathlib.Omega.{arith}
use borrow.Author.Rules.{rules}
use lib.ListN.{get_or}
use lib.Ieee.{nan}
use Rattle.ieee_cast.specs.Soft.{soft_of}
use Rattle.isdbs_metrics.specs.Reading.{absolute}
use Rattle.decode_soft.proofs.Fill.{filled_none, filled_long, filled_more}
use Rattle.decode_soft.proofs.magnitude_each.Goals as goal

pub loop-i-init : goal.loop-i-init
loop-i-init c =
    let a = c.args in
    (search rules, filled_none (λ k. soft_of (absolute (get_or a.xs.now k nan))) a.out.now)

pub bounds-out-i : goal.bounds-out-i
bounds-out-i c =
    let at = c in
    let a = at.args in
    let l = filled_long (λ k. soft_of (absolute (get_or a.xs.now k nan))) a.out.now at.loop-i.i at.loop-i.out (omega arith) at.loop-i.invariant.1 in
    omega arith

pub loop-i-preserved : goal.loop-i-preserved
unfolding soft_of
loop-i-preserved c =
    let at = c in
    let a = at.args in (
      search rules,
      filled_more (λ k. soft_of (absolute (get_or a.xs.now k nan))) a.out.now at.loop-i.i _ at.loop-i.out (omega arith) at.loop-i.invariant.1 (c.soft.ensures ∙ ap soft_of c.unsigned.ensures),
    )

pub shape_of-out : goal.shape_of-out
shape_of-out c =
    let at = c in
    let a = at.args in
    filled_long (λ k. soft_of (absolute (get_or a.xs.now k nan))) a.out.now at.loop-i.i at.loop-i.out (omega arith) at.loop-i.invariant.1

pub returns : goal.returns
returns c =
    let at = c in
    let e : at.loop-i.i ≡ at.args.n = omega arith in
    rw e at at.loop-i.invariant.1
