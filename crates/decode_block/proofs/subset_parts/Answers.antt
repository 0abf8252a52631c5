use borrow.Author.Rules.{rules}
use mathlib.Core.Path.{◌≡◌, refl, sym, ◌∙◌, ap}
use mathlib.Core.List.{List}
use Prim.Native.Nat.{ℕ, ◌+◌, ◌-◌, ◌*◌}
use native.Mathlib.Omega.{arith}
use lib.ListN.{length}
use lib.Ieee.{Float}
use Rattle.trellis.specs.Lists.{upto}
use Rattle.decode_block.specs.Blocks.{fours, subset_parts}
use Rattle.decode_block.proofs.Laws.{put_four, length_four, fours_0, fours_1, fours_2, fours_3}
use Rattle.decode_block.proofs.subset_parts.Goals as goal

pub loop-s-init : goal.loop-s-init
unfolding upto
loop-s-init c = (search rules, refl, refl)

pub overflow_step-s : goal.overflow_step-s
overflow_step-s c =
    let tested = c in
    let at-fits = tested in
    let inside = tested.loop-s-test.true in
    let most = at-fits.ranges.n.fits in
    record { fits = omega arith }

pub loop-s-preserved : goal.loop-s-preserved
unfolding upto
loop-s-preserved c =
    let correlation4 = c in
    let correlation2 = correlation4 in
    let symbol = correlation2 in
    let looped = symbol in
    let subset-point3 = looped in
    let subset-point = subset-point3 in
    let st = subset-point in
    let at = looped.loop-s in
    let h = at.invariant in
    let room = st.requires.2 in
    let inside = symbol.loop-s-test.true in
    let ms : ℕ → List Float = λ j. subset_parts st.args.re.now st.args.im.now st.args.m (st.args.k0 + j) in
    let v = symbol.symbol-v.ensures in
    let now = c.put_parts.ensures in (
      omega arith,
      ap length now ∙ length_four at.parts (4 * at.s) (4 * at.s + 1) (4 * at.s + 2) (4 * at.s + 3) _ _ _ _ ∙ h.1,
      now ∙ put_four (fours ms) at.s _ _ _ _ at.parts st.args.parts.now (omega arith) h.2
          (rw (correlation2.correlation-a.ensures, v, subset-point.subset_point-p.ensures) (sym (fours_0 ms at.s)))
          (rw (correlation2.correlation-b.ensures, v, subset-point3.subset_point-q.ensures) (sym (fours_1 ms at.s)))
          (rw (correlation4.correlation-c.ensures, v, subset-point3.subset_point-r.ensures) (sym (fours_2 ms at.s)))
          (rw (correlation4.correlation-d.ensures, v, looped.subset_point-t.ensures) (sym (fours_3 ms at.s))),
    )

pub returns : goal.returns
returns c =
    let start = c in
    let e : c.loop-s.s ≡ start.args.n = omega arith in
    rw e at c.loop-s.invariant.2
