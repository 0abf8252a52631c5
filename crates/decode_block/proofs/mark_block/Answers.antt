use borrow.Author.Rules.{rules}
use mathlib.Core.Path.{◌≡◌, refl, ◌∙◌}
use Prim.Native.Nat.{ℕ, ◌-◌}
use native.Mathlib.Omega.{arith}
use lib.ListN.{length-set}
use Rattle.trellis.specs.Lists.{upto}
use Rattle.trellis.specs.Run.{four_steps}
use Rattle.strain_marks.specs.Marks.{mark_of}
use Rattle.decode_block.specs.Blocks.{four_in}
use Rattle.decode_parts.specs.FilledLaws.{put_one}
use Rattle.decode_block.proofs.mark_block.Goals as goal

pub loop-i-init : goal.loop-i-init
unfolding upto
loop-i-init c = (search rules, refl, refl)

pub loop-i-preserved : goal.loop-i-preserved
loop-i-preserved c =
    let tested = c in
    let looped = tested in
    let st = looped in
    let at = looped.loop-i in
    let h = at.invariant in
    let room = st.requires.1 in
    let inside = tested.loop-i-test.true in
    let f : ℕ → ℕ = λ j. mark_of (four_in (four_steps st.args.block.now j)) in
    (omega arith, length-set at.wide at.i c.mark.result ∙ h.1, put_one f at.i c.mark.result at.wide st.args.wide.now (omega arith) h.2 c.mark.ensures)

pub returns : goal.returns
returns c =
    let e : c.loop-i.i ≡ c.args.n = omega arith in
    rw e at c.loop-i.invariant.2
