use mathlib.Core.Path.{◌≡◌, refl, ◌∙◌}
use Prim.Native.Nat.{◌-◌}
use native.Mathlib.Omega.{arith}
use lib.ListN.{length}
use borrow.Author.Rules.{rules}
use Rattle.trellis.specs.Isdb
use Rattle.isdbs_points.specs.Frame.{start_state}
use Rattle.encode_blocks.specs.FrameLaws.{runs_length, runs_tiled, here_start, state_start}
use Rattle.wanted_match.proofs.Frames.{none, block_alike, block_differs, rest_compared}
use Rattle.wanted_match.proofs.matches.Goals as goal

pub loop-at-init : goal.loop-at-init
loop-at-init c =
    let st = c in
    let a = st.args in
    let s = c.start_state in
    rw (c.start_place-at.ensures, s.ensures.0) (
      here_start a.f.plan st.requires.0 (start_state a.f.first) (rw s.ensures.0 at s.ensures.1),
      state_start a.f.plan st.requires.0 a.load.now (start_state a.f.first),
      refl,
      refl,
      none a.f.plan.table a.f.mapping a.f.first a.re.now a.im.now a.load.now,
    )

pub next_block-next-requires : goal.next_block-next-requires
next_block-next-requires c =
    let at = c in
    let st = at in
    let p = st.args.f.plan in
    let inv = at.loop-at.invariant in
    (st.requires.0.few, runs_length p st.requires.0, runs_tiled p st.requires.0, inv.0, c.loop-at-test.true, omega (arith, inv.2, st.requires.3), omega (arith, inv.3, st.requires.4))

pub same_block-requires : goal.same_block-requires
same_block-requires c =
    let next-block = c in
    let at = next-block in
    let made = next-block.next_block-next in
    let loop = at.loop-at in
    let lx : length made.new.xs ≡ length loop.xs = search rules in
    let ly : length made.new.ys ≡ length loop.ys = search rules in
    let st = at in
    let on = made.ensures.place in
    let fits = on.0.fits in
    (omega (arith, fits, on.1, st.requires.1), omega (arith, fits, on.1, st.requires.2), omega (arith, on.2, lx, loop.invariant.2, st.requires.3), omega (arith, on.2, ly, loop.invariant.3, st.requires.4))

pub returns-then-not-same_block : goal.returns-then-not-same_block
returns-then-not-same_block c =
    let next-block = c in
    let at = next-block in
    let st = at in
    let a = st.args in
    let inv = at.loop-at.invariant in
    let made = next-block.next_block-next in
    let on = made.ensures.place in
    block_differs a.f.plan st.requires.0 a.f.mapping a.f.first a.re.now a.im.now a.load.now at.loop-at.at made.result _ _ _ _ (made.ensures.block (start_state a.f.first) inv.1) on.1 on.0.fits c.same_block.result c.if-not-same_block.true c.same_block.ensures

pub loop-at-smaller : goal.loop-at-smaller
loop-at-smaller c =
    let next-block = c in
    let at = next-block in
    let on = next-block.next_block-next.ensures.place in
    let inv = at.loop-at.invariant in
    omega (arith, on.3, on.0.few, on.0.fits, inv.0.fits, inv.0.few)

pub loop-at-preserved : goal.loop-at-preserved
loop-at-preserved c =
    let next-block = c in
    let at = next-block in
    let made = next-block.next_block-next in
    let loop = at.loop-at in
    let lx : length made.new.xs ≡ length loop.xs = search rules in
    let ly : length made.new.ys ≡ length loop.ys = search rules in
    let st = at in
    let a = st.args in
    let inv = loop.invariant in
    let on = made.ensures.place in
    let block = made.ensures.block (start_state a.f.first) inv.1 in (
      on.0,
      block.state_is,
      lx ∙ inv.2,
      ly ∙ inv.3,
      block_alike a.f.plan st.requires.0 a.f.mapping a.f.first a.re.now a.im.now a.load.now at.loop-at.at made.result _ _ _ _ block on.1 on.0.fits c.same_block.result c.if-not-same_block.false c.same_block.ensures inv.4,
    )

pub same_unused-requires : goal.same_unused-requires
same_unused-requires c =
    let at = c in
    let st = at in
    (at.loop-at.invariant.0.fits, st.requires.1, st.requires.2)

pub returns : goal.returns
returns c =
    let at = c in
    let st = at in
    let a = st.args in
    let inv = at.loop-at.invariant in
    rest_compared a.f.plan st.requires.0 a.f.mapping a.f.first a.re.now a.im.now a.load.now at.loop-at.at inv.0 c.loop-at-test.false st.requires.1 st.requires.2 inv.4 c.same_unused.result c.same_unused.ensures
