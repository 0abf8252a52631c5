use borrow.Author.Rules.{rules}
use mathlib.Core.Path.{◌≡◌, refl, ◌∙◌}
use Prim.Native.Nat.{◌-◌}
use native.Mathlib.Omega.{arith}
use lib.ListN.{get_or, length-set}
use Rattle.trellis.specs.Lists.{upto}
use Rattle.decode_parts.specs.FilledLaws.{put_one}
use Rattle.decode_block.proofs.narrow.Goals as goal

pub loop-i-init : goal.loop-i-init
unfolding upto
loop-i-init c = (search rules, refl, refl)

pub overflow_cast-marks : goal.overflow_cast-marks
overflow_cast-marks c =
    let at = c in
    let few = at.requires.2 at.loop-i.i c.loop-i-test.true in
    record { fits = omega arith }

pub loop-i-preserved : goal.loop-i-preserved
loop-i-preserved c =
    let tested = c in
    let looped = tested in
    let st = looped in
    let at = looped.loop-i in
    let h = at.invariant in
    let wide = st.args.wide.now in
    let room = st.requires.1 in
    let inside = tested.loop-i-test.true in
    let v = get_or wide at.i 0 in
    (omega arith, length-set at.marks at.i v ∙ h.1, put_one (λ j. get_or wide j 0) at.i v at.marks st.args.marks.now (omega arith) h.2 refl)

pub returns : goal.returns
returns c =
    let e : c.loop-i.i ≡ c.args.n = omega arith in
    rw e at c.loop-i.invariant.2
