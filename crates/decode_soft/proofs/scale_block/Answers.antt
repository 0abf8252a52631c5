use mathlib.Core.Path.{◌≡◌, ap}
use Prim.Native.Nat.{ℕ, ◌-◌}
use native.Mathlib.Omega.{arith}
use borrow.Author.Rules.{rules}
use lib.ListN.{get_or}
use lib.Ieee.{Float, nan, binary32, mul}
use Rattle.decode_soft.proofs.Fill.{filled_none, filled_long, filled_more, filled_next}
use Rattle.decode_soft.proofs.scale_block.Goals as goal

pub loop-i-init : goal.loop-i-init
loop-i-init c =
    let a = c.args in
    (search rules, filled_none (λ k. mul binary32 (get_or a.out.now k nan) a.scale) a.out.now)

pub bounds-out-i : goal.bounds-out-i
bounds-out-i c =
    let at = c in
    let a = at.args in
    let l = filled_long (λ k. mul binary32 (get_or a.out.now k nan) a.scale) a.out.now at.loop-i.i at.loop-i.out (omega arith) at.loop-i.invariant.1 in
    omega arith

pub bounds-out-i-in-loop-i : goal.bounds-out-i-in-loop-i
bounds-out-i-in-loop-i c =
    let at = c in
    let a = at.args in
    let l = filled_long (λ k. mul binary32 (get_or a.out.now k nan) a.scale) a.out.now at.loop-i.i at.loop-i.out (omega arith) at.loop-i.invariant.1 in
    omega arith

pub loop-i-preserved : goal.loop-i-preserved
loop-i-preserved c =
    let at = c in
    let a = at.args in
    let f : ℕ → Float = λ k. mul binary32 (get_or a.out.now k nan) a.scale in (
      search rules,
      filled_more f a.out.now at.loop-i.i _ at.loop-i.out (omega arith) at.loop-i.invariant.1
          (ap (λ (x : Float). mul binary32 x a.scale) (filled_next f a.out.now at.loop-i.i at.loop-i.out at.loop-i.invariant.1)),
    )

pub shape_of-out : goal.shape_of-out
shape_of-out c =
    let at = c in
    let a = at.args in
    filled_long (λ k. mul binary32 (get_or a.out.now k nan) a.scale) a.out.now at.loop-i.i at.loop-i.out (omega arith) at.loop-i.invariant.1

pub returns : goal.returns
returns c =
    let at = c in
    let e : at.loop-i.i ≡ at.args.n = omega arith in
    rw e at at.loop-i.invariant.1
