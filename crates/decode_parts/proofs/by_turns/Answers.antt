use borrow.Author.Rules.{rules}
use mathlib.Core.Path.{◌≡◌, refl, sym, ◌∙◌}
use Prim.Native.Nat.{ℕ, ◌+◌, ◌-◌, ◌*◌}
use native.Mathlib.Omega.{arith}
use lib.ListN.{get_or, length-set}
use lib.Ieee.{Float, nan}
use Rattle.trellis.specs.Lists.{upto}
use Rattle.isdbs_points.specs.Points.{conjugated}
use Rattle.decode_parts.specs.Turns.{turns}
use Rattle.decode_parts.specs.FilledLaws.{put_two, length_two, turns_first, turns_second}
use Rattle.decode_parts.proofs.by_turns.Goals as goal

pub loop-i-init : goal.loop-i-init
unfolding upto
loop-i-init c = (search rules, refl, refl)

pub bounds-parts-i-in-loop-i : goal.bounds-parts-i-in-loop-i
bounds-parts-i-in-loop-i c = simp (length-set) (omega arith)

pub loop-i-preserved : goal.loop-i-preserved
loop-i-preserved c =
    let tested = c in
    let looped = tested in
    let st = looped in
    let at = looped.loop-i in
    let h = at.invariant in
    let room = st.requires.2 in
    let inside = tested.loop-i-test.true in
    let f : ℕ → Float = λ k. conjugated st.args.turn_a (get_or st.args.a.now (st.args.from + k) nan) in
    let g : ℕ → Float = λ k. conjugated st.args.turn_b (get_or st.args.b.now (st.args.from + k) nan) in (
      omega arith,
      length_two at.parts (2 * at.i) (2 * at.i + 1) _ _ ∙ h.1,
      put_two (turns f g) at.i _ _ at.parts st.args.parts.now (omega arith) h.2 (c.mirror.ensures ∙ sym (turns_first f g at.i)) (c.mirror-in-loop-i.ensures ∙ sym (turns_second f g at.i)),
    )

pub returns : goal.returns
returns c =
    let e : c.loop-i.i ≡ c.args.n = omega arith in
    rw e at c.loop-i.invariant.2
