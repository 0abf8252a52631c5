use mathlib.Core.Path.{◌≡◌, refl, ◌∙◌, ap}
use Prim.Native.Nat.{◌+◌, ◌-◌, ◌*◌, ◌<◌, ◌≤◌}
use native.Mathlib.Omega.{arith}
use lib.ListN.{length, length-take, length-drop}
use Rattle.trellis.specs.Lists.{upto}
use Rattle.trellis.specs.LaidLaws.{length_laid_upto}
use Rattle.viterbi_release.specs.PartLaws.{written_tail}
use Rattle.isdbs_points.specs.Layout.{steps_per_period}
use Rattle.isdbs_metrics.specs.Steps.{piece_metrics}
use Rattle.decode_block.specs.Blocks.{fours}
use Rattle.decode_block.specs.PeriodLaws.{short, more_periods}
use Rattle.decode_run.specs.BlockLaws.{block_periods, no_periods}
use Rattle.best_metrics.proofs.Blocks.{more_metrics}
use Rattle.best_metrics.proofs.run_metrics.Goals as goal

pub loop-k-init : goal.loop-k-init
unfolding upto
loop-k-init c = (omega arith, no_periods c.layout_of-layout.result.combination, refl, refl)

pub block_of-len-requires : goal.block_of-len-requires
block_of-len-requires c =
    let lay = c.layout_of-layout in
    let s = short lay.result.combination in
    rw lay.ensures.1.period (s.2, s.1)

pub overflow_mul-from : goal.overflow_mul-from
overflow_mul-from c =
    let tested = c in
    let looped = tested in
    let st = looped in
    let at = looped.loop-k in
    let inside = tested.loop-k-test.true in
    let within = at.invariant.0 in
    let fits = st.requires.1 in
    omega arith

pub slice_bounds-write_block-count : goal.slice_bounds-write_block-count
slice_bounds-write_block-count c =
    let tested = c in
    let looped = tested in
    let st = looped in
    let at = looped.loop-k in
    let inside = tested.loop-k-test.true in
    let within = at.invariant.0 in
    let l = at.invariant.2 in
    let room = st.requires.2 in
    omega arith

pub slice_bounds-write_block-start : goal.slice_bounds-write_block-start
slice_bounds-write_block-start c =
    let tested = c in
    let looped = tested in
    let st = looped in
    let at = looped.loop-k in
    let inside = tested.loop-k-test.true in
    let within = at.invariant.0 in
    let l = at.invariant.2 in
    let room = st.requires.2 in
    omega arith

pub write_block-requires : goal.write_block-requires
write_block-requires c =
    let Block-of = c in
    let tested = Block-of in
    let looped = tested in
    let layout_of = looped in
    let st = layout_of in
    let at = looped.loop-k in
    let inside = tested.loop-k-test.true in
    let bo = Block-of.block_of-len in
    let le = bo.ensures.0 in
    let lay = layout_of.layout_of-layout in
    let co = lay.result.combination in
    let e = lay.ensures.0 in
    let ep = lay.ensures.1.period in
    let fits = st.requires.1 in
    let room = st.requires.2 in
    let h = at.invariant in
    let l = h.2 in
    let few : bo.result ≤ 64 * steps_per_period co = rw ep at bo.ensures.1 in (
      lay.ensures.1,
      h.1,
      block_periods co st.args.n at.k bo.result (rw e st.requires.0) h.1 h.0 (rw ep at bo.ensures.3),
      few,
      omega arith,
      λ j g. rw e (st.requires.3 j (omega arith)),
      λ j g. rw e (st.requires.4 j (omega arith)),
      simp (length-take, length-drop) (omega arith),
    )

pub overflow_add-k : goal.overflow_add-k
overflow_add-k c =
    let Block-of = c in
    let tested = Block-of in
    let looped = tested in
    let layout_of = looped in
    let st = layout_of in
    let at = looped.loop-k in
    let inside = tested.loop-k-test.true in
    let bo = Block-of.block_of-len in
    let le = bo.ensures.0 in
    let fits = st.requires.1 in
    omega arith

pub loop-k-smaller : goal.loop-k-smaller
loop-k-smaller c =
    let Block-of = c in
    let tested = Block-of in
    let looped = tested in
    let layout_of = looped in
    let st = layout_of in
    let at = looped.loop-k in
    let inside = tested.loop-k-test.true in
    let bo = Block-of.block_of-len in
    let le = bo.ensures.0 in
    let some : 0 < bo.result = bo.ensures.2 (omega arith) in
    omega arith

pub loop-k-preserved : goal.loop-k-preserved
loop-k-preserved c =
    let Block-of = c in
    let tested = Block-of in
    let looped = tested in
    let layout_of = looped in
    let st = layout_of in
    let at = looped.loop-k in
    let inside = tested.loop-k-test.true in
    let bo = Block-of.block_of-len in
    let le = bo.ensures.0 in
    let a = st.args in
    let wb = c.write_block in
    let lay = layout_of.layout_of-layout in
    let co = lay.result.combination in
    let k = at.k in
    let h = at.invariant in
    let l = h.2 in
    let room = st.requires.2 in
    let ms = piece_metrics co a.re.now a.im.now a.m a.scale in
    let done = more_metrics ms k bo.result at.metrics a.metrics.now _ h.3 (written_tail (4 * k) at.metrics wb.new.out (upto (λ i. fours ms (4 * k + i)) (4 * bo.result)) (omega arith) wb.ensures) in (
      omega arith,
      more_periods co k bo.result h.1 (block_periods co a.n k bo.result (rw lay.ensures.0 st.requires.0) h.1 h.0 (rw lay.ensures.1.period at bo.ensures.3)),
      ap length done ∙ length_laid_upto (fours ms) (4 * (k + bo.result)) a.metrics.now (omega arith),
      done,
    )

pub returns : goal.returns
returns c =
    let looped = c in
    let layout_of = looped in
    let st = layout_of in
    let e : looped.loop-k.k ≡ st.args.n = omega arith in
    rw (e, layout_of.layout_of-layout.ensures.0) at looped.loop-k.invariant.3
