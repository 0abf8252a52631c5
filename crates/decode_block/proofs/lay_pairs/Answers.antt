use borrow.Author.Rules.{rules}
use mathlib.Core.Path.{◌≡◌, refl, sym, ◌∙◌}
use Prim.Native.Nat.{◌+◌, ◌-◌, ◌*◌}
use native.Mathlib.Omega.{arith}
use lib.ListN.{length-set}
use Rattle.trellis.specs.Lists.{upto}
use Rattle.strain_marks.specs.Marks.{mark_of}
use Rattle.decode_parts.specs.FilledLaws.{put_one}
use Rattle.decode_block.specs.Blocks.{fours, pairs_at}
use Rattle.decode_block.proofs.Laws.{put_four, length_four, fours_0, fours_1, fours_2, fours_3}
use Rattle.decode_block.proofs.lay_pairs.Goals as goal

pub loop-s-init : goal.loop-s-init
unfolding upto
loop-s-init c = (search rules, refl, refl, refl, refl)

pub bounds-block-s-in-loop-s : goal.bounds-block-s-in-loop-s
bounds-block-s-in-loop-s c = simp (length-set) (omega arith)

pub bounds-block-s-in-loop-s-2 : goal.bounds-block-s-in-loop-s-2
bounds-block-s-in-loop-s-2 c = simp (length-set) (omega arith)

pub bounds-block-s-in-loop-s-3 : goal.bounds-block-s-in-loop-s-3
bounds-block-s-in-loop-s-3 c = simp (length-set) (omega arith)

pub loop-s-preserved : goal.loop-s-preserved
loop-s-preserved c =
    let turn = c in
    let at = turn in
    let st = at in
    let s = at.loop-s.s in
    let h = at.loop-s.invariant in
    let inside = turn.loop-s-test.true in
    let pairs = st.args.pairs.now in
    let ms = pairs_at pairs in (
      omega arith,
      length_four at.loop-s.block (4 * s) (4 * s + 1) (4 * s + 2) (4 * s + 3) _ _ _ _ ∙ h.1,
      length-set at.loop-s.wide s c.mark.result ∙ h.2,
      put_four (fours ms) s _ _ _ _ at.loop-s.block st.args.block.now (omega arith) h.3 (sym (fours_0 ms s)) (sym (fours_1 ms s)) (sym (fours_2 ms s)) (sym (fours_3 ms s)),
      put_one (λ i. mark_of (pairs_at pairs i)) s c.mark.result at.loop-s.wide st.args.wide.now (omega arith) h.4 c.mark.ensures,
    )

pub returns : goal.returns
returns c =
    let at = c in
    let e : at.loop-s.s ≡ at.args.n = omega arith in
    let h = rw e at at.loop-s.invariant in
    (h.3, h.4)
