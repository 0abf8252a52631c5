use mathlib.Core.Path.{◌≡◌, refl, ◌∙◌, ap}
use Prim.Native.Nat.{◌-◌}
use native.Mathlib.Omega.{arith}
use lib.ListN.{length}
use borrow.Author.Rules.{rules}
use Rattle.trellis.specs.LaidLaws.{length_laid_upto}
use Rattle.isdbs_points.specs.Points.{zero64}
use Rattle.trellis.specs.Isdb
use Rattle.isdbs_points.specs.Frame.{start_state}
use Rattle.encode_blocks.specs.FrameLaws.{runs_length, runs_tiled, here_start, state_start}
use Rattle.quality.proofs.Running.{running_start, running_end}
use Rattle.quality.proofs.Blocks.{block_added_lem, all_added}
use Rattle.quality.proofs.sum_blocks.Goals as goal

pub loop-at-init : goal.loop-at-init
loop-at-init c =
    let at-begin = c in
    let st = at-begin in
    let a = st.args in
    let s = c.start_state in
    let begun = at-begin.begin in
    rw (c.start_place-at.ensures, s.ensures.0) (
      here_start a.f.plan st.requires.0 (start_state a.f.first) (rw s.ensures.0 at s.ensures.1),
      state_start a.f.plan st.requires.0 a.bytes.now (start_state a.f.first),
      refl,
      refl,
      refl,
      running_start a.re.now a.im.now a.bytes.now a.f.plan.table a.f.mapping a.f.first begun.new.out a.out.now begun.ensures,
    )

pub bpsk_run-bpsk-requires : goal.bpsk_run-bpsk-requires
bpsk_run-bpsk-requires c =
    let at = c in
    let st = at in
    omega (arith, c.loop-at-test.true, st.requires.0.few)

pub next_block-next-requires : goal.next_block-next-requires
next_block-next-requires c =
    let at = c in
    let st = at in
    let p = st.args.f.plan in
    let inv = at.loop-at.invariant in
    (st.requires.0.few, runs_length p st.requires.0, runs_tiled p st.requires.0, inv.0, c.loop-at-test.true, omega (arith, inv.2, st.requires.3), omega (arith, inv.3, st.requires.4))

pub add_block-requires : goal.add_block-requires
add_block-requires c =
    let next-block = c in
    let at = next-block in
    let made = next-block.next_block-next in
    let loop = at.loop-at in
    let lx : length made.new.xs ≡ length loop.xs = search rules in
    let ly : length made.new.ys ≡ length loop.ys = search rules in
    let at-begin = at in
    let st = at-begin in
    let a = st.args in
    let on = made.ensures.place in
    let fits = on.0.fits in
    let begun = at-begin.begin in
    let lo : length begun.new.out ≡ length a.out.now = ap length begun.ensures ∙ length_laid_upto (λ i. zero64) 336 a.out.now st.requires.5 in
    (omega (arith, fits, on.1), st.requires.1, st.requires.2, omega (arith, on.2, lx, loop.invariant.2, st.requires.3), omega (arith, on.2, ly, loop.invariant.3, st.requires.4), omega (arith, lo, loop.invariant.4, st.requires.5))

pub loop-at-smaller : goal.loop-at-smaller
loop-at-smaller c =
    let next-block = c in
    let on = next-block.next_block-next.ensures.place in
    let inv = next-block.loop-at.invariant in
    omega (arith, on.3, on.0.few, on.0.fits, inv.0.fits, inv.0.few)

pub loop-at-preserved : goal.loop-at-preserved
loop-at-preserved c =
    let next-block = c in
    let at = next-block in
    let made = next-block.next_block-next in
    let loop = at.loop-at in
    let lx : length made.new.xs ≡ length loop.xs = search rules in
    let ly : length made.new.ys ≡ length loop.ys = search rules in
    let bpsk-run = next-block in
    let at-begin = at in
    let st = at-begin in
    let a = st.args in
    let bpsk = bpsk-run.bpsk_run-bpsk in
    let on = made.ensures.place in
    let block = made.ensures.block (start_state a.f.first) loop.invariant.1 in (
      on.0,
      block.state_is,
      lx ∙ loop.invariant.2,
      ly ∙ loop.invariant.3,
      search rules,
      block_added_lem a.f.plan st.requires.0 a.re.now a.im.now a.bytes.now a.f.mapping a.f.first at-begin.begin.new.out loop.at made.result _ _ _ _ block loop.invariant.0 bpsk-run.loop-at-test.true on.1 bpsk.result loop.out _ bpsk.ensures loop.invariant.5 c.add_block.ensures,
    )

pub returns : goal.returns
returns c =
    let at = c in
    let at-begin = at in
    let st = at-begin in
    let a = st.args in
    let loop = at.loop-at in
    let begun = at-begin.begin in
    loop.invariant.5 ∙ all_added a.f.plan st.requires.0 a.re.now a.im.now a.bytes.now a.f.mapping a.f.first begun.new.out loop.at loop.invariant.0 c.loop-at-test.false
    ∙ running_end a.re.now a.im.now a.bytes.now a.f.plan.table a.f.mapping a.f.first begun.new.out a.out.now begun.ensures st.requires.5
