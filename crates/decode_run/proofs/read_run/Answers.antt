use borrow.Author.Rules.{rules}
use mathlib.Core.Path.{◌≡◌, refl, ◌∙◌, ap}
use mathlib.Core.List.{List, ◌++◌}
use Prim.Native.Nat.{ℕ, ◌+◌, ◌-◌, ◌<◌, ◌≤◌}
use native.Mathlib.Omega.{arith}
use lib.Dec.{lit≤}
use lib.ListN.{length, take, drop, length-take, length-drop}
use Rattle.trellis.specs.Lists.{upto, laid}
use Rattle.viterbi_core.specs.CountLaws.{releases_le}
use Rattle.trellis.specs.LaidLaws.{laid_part, length_laid_upto}
use Rattle.decode_bytes.specs.FrameByteLaws.{written_tail}
use Rattle.decode_block.specs.Blocks.{run_steps, run_mark}
use Rattle.decode_block.specs.PeriodLaws.{short, more_periods}
use Rattle.decode_run.specs.BlockLaws.{block_periods, no_periods, read_start, read_block}
use Rattle.decode_run.proofs.read_run.Goals as goal

pub loop-k-init : goal.loop-k-init
unfolding upto
loop-k-init c =
    let st = c in
    (search rules, no_periods c.layout_of-layout.result.combination, refl, refl, read_start _ _ _ _ _ _ st.requires.few, refl, refl, refl, refl, refl, refl)

pub block_of-len-requires : goal.block_of-len-requires
block_of-len-requires c =
    let lay = c.layout_of-layout in
    let s = short lay.result.combination in
    rw lay.ensures.1.period (s.2, s.1)

pub make_block-requires : goal.make_block-requires
make_block-requires c =
    let looped = c in
    let layout_of = c in
    let st = layout_of in
    let at = looped.loop-k in
    let inside = c.loop-k-test.true in
    let bo = c.block_of-len in
    let le = bo.ensures.0 in
    let lay = layout_of.layout_of-layout in
    let co = lay.result.combination in
    let e = lay.ensures.0 in
    let ep = lay.ensures.1.period in
    let fits = st.requires.under in
    let room = st.requires.kept in
    let h = at.invariant in
    let lm = h.5 in
    let lp = h.7 in
    let lq = h.8 in
    let lw = h.9 in
    let lb = h.10 in (
      record {
        layout = lay.ensures.1;
        start = h.1;
        whole = block_periods co st.args.run.count at.k bo.result (rw e st.requires.whole) h.1 h.0 (rw ep at bo.ensures.3);
        few = rw ep at bo.ensures.1;
        under = omega arith;
      },
      λ j g. rw e (st.requires.real j (omega arith)),
      λ j g. rw e (st.requires.imaginary j (omega arith)),
      omega arith,
      omega arith,
      omega arith,
      omega arith,
      simp (length-take, length-drop) (omega arith),
    )

pub run_steps-now_at-requires : goal.run_steps-now_at-requires
run_steps-now_at-requires c =
    let made = c in
    let blocked = made in
    let looped = blocked in
    let st = looped in
    let at = looped.loop-k in
    let inside = blocked.loop-k-test.true in
    let bo = blocked.block_of-len in
    let le = bo.ensures.0 in
    let z = at.invariant.4 in
    let held = z.few in
    let sum = z.sum in
    let most = releases_le 128 at.now_at.held bo.result (lit≤ tt) in
    let words = at.invariant.2 in
    let places = at.invariant.3 in
    let enough = st.requires.held in
    let room = st.requires.room in
    let fits = st.requires.under in
    let long = made.make_block.ensures.made.long in
    (lit≤ tt, lit≤ tt, held, omega arith, omega arith, omega arith, omega arith)

pub overflow_add-k : goal.overflow_add-k
overflow_add-k c =
    let blocked = c in
    let tested = blocked in
    let start = tested in
    let inside = tested.loop-k-test.true in
    let le = blocked.block_of-len.ensures.0 in
    let fits = start.requires.under in
    omega arith

pub loop-k-smaller : goal.loop-k-smaller
loop-k-smaller c =
    let blocked = c in
    let bo = blocked.block_of-len in
    let le = bo.ensures.0 in
    let inside = blocked.loop-k-test.true in
    let some : 0 < bo.result = bo.ensures.2 (omega arith) in
    omega arith

pub loop-k-preserved : goal.loop-k-preserved
loop-k-preserved c =
    let ran = c in
    let made = ran in
    let blocked = made in
    let looped = blocked in
    let layout_of = looped in
    let st = layout_of in
    let at = looped.loop-k in
    let inside = blocked.loop-k-test.true in
    let bo = blocked.block_of-len in
    let le = bo.ensures.0 in
    let lay = layout_of.layout_of-layout in
    let called = made.make_block in
    let mb = called.ensures in
    let rf = ran.run_steps-now_at.ensures in
    let k = at.k in
    let h = at.invariant in
    let lm = h.5 in
    let room = st.requires.kept in
    let co = lay.result.combination in
    let g = run_mark co st.args.re.now st.args.im.now st.args.run.mapping st.args.run.scale in
    let ys = run_steps co st.args.re.now st.args.im.now st.args.run.mapping st.args.run.scale in
    let f = upto (λ i. g (k + i)) bo.result in
    let marked = written_tail k at.marks _ f (omega arith) mb.marked
    ∙ ap (λ (l : List ℕ). take k l ++ laid f (drop k l)) h.6
    ∙ laid_part g (λ i. g (k + i)) k bo.result st.args.marks.now (λ i l. refl) in (
      omega arith,
      more_periods co k bo.result h.1 (block_periods co st.args.run.count k bo.result (rw lay.ensures.0 st.requires.whole) h.1 h.0 (rw lay.ensures.1.period at bo.ensures.3)),
      ran.run_steps-now_at.auto.decisions ∙ h.2,
      ran.run_steps-now_at.auto.out ∙ h.3,
      read_block ys st.args.run.first _ st.args.at _ _ k bo.result _ _ _ _ _ _ _ _ _ h.4 mb.made rf,
      ap length marked ∙ length_laid_upto g (k + bo.result) st.args.marks.now (omega arith),
      marked,
      called.auto.parts ∙ h.7,
      called.auto.pairs ∙ h.8,
      called.auto.wide ∙ h.9,
      called.auto.block ∙ h.10,
    )

pub returns : goal.returns
returns c =
    let looped = c in
    let layout_of = looped in
    let st = layout_of in
    let n : looped.loop-k.k ≡ st.args.run.count = omega arith in
    let h = rw n at looped.loop-k.invariant in
    let e = layout_of.layout_of-layout.ensures.0 in
    record { read = rw e at h.4; marked = rw e at h.6 }
