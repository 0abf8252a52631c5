use mathlib.Core.Path.{refl, ◌∙◌, ap, subst}
use mathlib.Core.List.{List}
use Prim.Native.Nat.{ℕ, ◌-◌}
use native.Mathlib.Omega.{arith}
use lib.ListN.{length}
use Rattle.trellis.specs.Isdb
use Rattle.trellis.specs.LaidLaws.{length_laid_upto}
use Rattle.isdbs_combination.specs.Combinations.{frame_slots}
use Rattle.isdbs_points.specs.Frame.{start_state}
use Rattle.encode_blocks.specs.FrameLaws.{runs_length, runs_tiled, here_start, state_start}
use Rattle.judge_points.specs.Outside.{outside}
use Rattle.judge_points.specs.Given.{Counted}
use Rattle.judge_points.proofs.GivenLaws.{counted_nothing, sum_few}
use Rattle.judge.proofs.Frames.{four_runs, counts_below, block_sizes, block_counted, rest_counted}
use Rattle.judge.proofs.judge_load.Goals as goal

pub loop-at-init : goal.loop-at-init
loop-at-init c =
    let clear-counts = c in
    let st = clear-counts in
    let a = st.args in
    let s = c.start_state in
    let cleared = clear-counts.clear_counts.new.counts in
    rw (c.start_place-at.ensures, s.ensures.0) (
      here_start a.f.plan st.requires.0 (start_state a.f.first) (rw s.ensures.0 at s.ensures.1),
      state_start a.f.plan st.requires.0 a.bytes.now (start_state a.f.first),
      refl,
      refl,
      refl,
      counted_nothing (outside a.re.now a.im.now a.bytes.now a.f.plan.table a.f.mapping a.f.first) 0 cleared,
    )

pub next_block-next-requires : goal.next_block-next-requires
next_block-next-requires c =
    let at = c in
    let clear-counts = at in
    let st = clear-counts in
    let p = st.args.f.plan in
    let inv = at.loop-at.invariant in
    (st.requires.0.few, runs_length p st.requires.0, runs_tiled p st.requires.0, inv.0, c.loop-at-test.true, omega (arith, inv.2, st.requires.3), omega (arith, inv.3, st.requires.4))

pub count_points-more-requires : goal.count_points-more-requires
count_points-more-requires c =
    let next-block = c in
    let at = next-block in
    let clear-counts = at in
    let st = clear-counts in
    let a = st.args in
    let clear = clear-counts.clear_counts in
    let loop = at.loop-at in
    let on = next-block.next_block-next.ensures.place in
    let size = ap length clear.ensures ∙ length_laid_upto (λ (_ : ℕ). 0) frame_slots a.counts.now st.requires.5 in
    let done = subst (λ (z : List ℕ). Counted (outside a.re.now a.im.now a.bytes.now a.f.plan.table a.f.mapping a.f.first) 0 loop.at.symbol z loop.counts loop.sum) clear.ensures loop.invariant.5 in
    (four_runs a.f.plan st.requires.0, omega (arith, on.1, on.0.fits), st.requires.1, st.requires.2, omega (arith, loop.invariant.4, size, st.requires.5), counts_below a.f.plan st.requires.0 a.f.mapping a.f.first a.re.now a.im.now a.bytes.now a.counts.now loop.counts loop.at.symbol loop.sum done)

pub overflow_add-sum : goal.overflow_add-sum
overflow_add-sum c =
    let next-block = c in
    let loop = next-block.loop-at in
    let on = next-block.next_block-next.ensures.place in
    let few = sum_few _ _ _ _ _ loop.sum loop.invariant.5 in
    let more = sum_few _ _ _ _ _ c.count_points-more.result c.count_points-more.ensures in
    record { fits = omega (arith, few, more, on.0.fits, on.1) }

pub loop-at-smaller : goal.loop-at-smaller
loop-at-smaller c =
    let next-block = c in
    let on = next-block.next_block-next.ensures.place in
    let inv = next-block.loop-at.invariant in
    omega (arith, on.3, on.0.few, on.0.fits, inv.0.fits, inv.0.few)

pub loop-at-preserved : goal.loop-at-preserved
loop-at-preserved c =
    let next-block = c in
    let at = next-block in
    let clear-counts = at in
    let st = clear-counts in
    let a = st.args in
    let clear = clear-counts.clear_counts in
    let loop = at.loop-at in
    let made = next-block.next_block-next in
    let counted = c.count_points-more in
    let block = made.ensures.block (start_state a.f.first) loop.invariant.1 in
    let on = made.ensures.place in
    let sizes = block_sizes a.f.plan st.requires.0 a.f.mapping a.f.first a.re.now a.im.now a.bytes.now loop.at made.result _ _ _ _ block on.1 (omega (arith, on.1, on.2, loop.invariant.2, st.requires.3)) (omega (arith, on.1, on.2, loop.invariant.3, st.requires.4)) in (
      on.0,
      block.state_is,
      sizes.0 ∙ loop.invariant.2,
      sizes.1 ∙ loop.invariant.3,
      counted.ensures.size ∙ loop.invariant.4,
      block_counted a.f.plan st.requires.0 a.f.mapping a.f.first a.re.now a.im.now a.bytes.now loop.at made.result _ _ _ _ block on.1 clear.new.counts loop.counts _ loop.sum counted.result loop.invariant.5 counted.ensures,
    )

pub overflow_sub-n-2 : goal.overflow_sub-n-2
overflow_sub-n-2 c = c.loop-at.invariant.0.fits

pub count_points-rest-requires : goal.count_points-rest-requires
count_points-rest-requires c =
    let at = c in
    let clear-counts = at in
    let st = clear-counts in
    let a = st.args in
    let clear = clear-counts.clear_counts in
    let loop = at.loop-at in
    let size = ap length clear.ensures ∙ length_laid_upto (λ (_ : ℕ). 0) frame_slots a.counts.now st.requires.5 in
    let done = subst (λ (z : List ℕ). Counted (outside a.re.now a.im.now a.bytes.now a.f.plan.table a.f.mapping a.f.first) 0 loop.at.symbol z loop.counts loop.sum) clear.ensures loop.invariant.5 in
    (four_runs a.f.plan st.requires.0, omega (arith, loop.invariant.0.fits), st.requires.1, st.requires.2, omega (arith, loop.invariant.4, size, st.requires.5), counts_below a.f.plan st.requires.0 a.f.mapping a.f.first a.re.now a.im.now a.bytes.now a.counts.now loop.counts loop.at.symbol loop.sum done)

pub overflow_add-result : goal.overflow_add-result
overflow_add-result c =
    let at = c in
    let loop = at.loop-at in
    let few = sum_few _ _ _ _ _ loop.sum loop.invariant.5 in
    let more = sum_few _ _ _ _ _ c.count_points-rest.result c.count_points-rest.ensures in
    record { fits = omega (arith, few, more, loop.invariant.0.fits) }

pub returns : goal.returns
returns c =
    let at = c in
    let clear-counts = at in
    let st = clear-counts in
    let a = st.args in
    let clear = clear-counts.clear_counts in
    let loop = at.loop-at in
    let rest = c.count_points-rest in
    let done = subst (λ (z : List ℕ). Counted (outside a.re.now a.im.now a.bytes.now a.f.plan.table a.f.mapping a.f.first) 0 loop.at.symbol z loop.counts loop.sum) clear.ensures loop.invariant.5 in
    rest_counted a.f.plan st.requires.0 a.f.mapping a.f.first a.re.now a.im.now a.bytes.now loop.at loop.invariant.0 c.loop-at-test.false loop.xs loop.ys a.counts.now loop.counts _ loop.sum rest.result st.requires.5 done rest.ensures
