use Prim.Native.Nat.{◌^◌}
use native.Mathlib.Nat.{mod-lt, mod-mod}
use native.Mathlib.Numerals.{add-one}
use lib.Dec.{lit<}
use Rattle.trellis.specs.ListLaws.{get_d_upto}
use Rattle.trellis.specs.Code.{moved}
use Rattle.isdbs_points.specs.Frame.{state_after}
use borrow.Author.Rules.{rules}
use mathlib.Core.Path.{◌≡◌, refl, ◌∙◌, ap}
use Prim.Native.Nat.{ℕ, ◌-◌, ◌/◌, ◌%◌, ◌<◌}
use native.Mathlib.Omega.{arith}
use Rattle.trellis.specs.Code.{state_at}
use Rattle.isdbs_points.specs.Layout.{word_bit}
use Rattle.isdbs_points.proofs.state_after.Goals as goal

pub loop-i-init : goal.loop-i-init
unfolding state_at
loop-i-init c = (search rules, search rules, refl)

pub loop-i-preserved : goal.loop-i-preserved
unfolding state_at
loop-i-preserved c =
    let i = c.loop-i.i in
    let w = c.args.word in
    let e : c.word_bit.result % 2 ≡ word_bit w i = ap (λ (x : ℕ). x % 2) c.word_bit.ensures ∙ mod-mod (w / 2 ^ (15 - i)) 2 in
    let g = get_d_upto (word_bit w) 0 16 i c.loop-i-test.true in
    let s = rw e at c.encode_bit-c.ensures.2 in
    let u : word_bit w i < 2 = mod-lt _ (lit< tt) in
    (omega arith, omega arith, rw (add-one i, g) (s ∙ ap (λ (x : ℕ). moved 32 (word_bit w i) x) c.loop-i.invariant.2))

pub returns : goal.returns
unfolding state_after
returns c =
    let e : c.loop-i.i ≡ 16 = omega arith in
    rw e at c.loop-i.invariant.2
