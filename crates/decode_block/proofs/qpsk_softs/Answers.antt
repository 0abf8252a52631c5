-- `qpsk_softs` meets its contract.
use mathlib.Core.Path.{◌∙◌}
use native.Mathlib.Omega.{arith}
use lib.ListN.{length}
use Rattle.decode_block.proofs.Laws.{laid_long}
use Rattle.decode_block.proofs.ByModulation.{sizes, block_sizes, qpsk_spread}
use Rattle.decode_block.proofs.qpsk_softs.Goals as goal

pub nonzero_div-periods : goal.nonzero_div-periods
nonzero_div-periods c =
    let st = c in
    let z = sizes st.args.plan.layout st.args.plan.from st.args.plan.count (length st.args.re.now) (length st.args.im.now) st.requires.0.layout st.requires.1 st.requires.0.start st.requires.0.whole st.requires.0.few st.requires.2 st.requires.3 in
    z.some

pub nonzero_div-from : goal.nonzero_div-from
nonzero_div-from c =
    let st = c in
    let z = sizes st.args.plan.layout st.args.plan.from st.args.plan.count (length st.args.re.now) (length st.args.im.now) st.requires.0.layout st.requires.1 st.requires.0.start st.requires.0.whole st.requires.0.few st.requires.2 st.requires.3 in
    z.some

pub overflow_mul-from : goal.overflow_mul-from
overflow_mul-from c =
    let st = c in
    let z = sizes st.args.plan.layout st.args.plan.from st.args.plan.count (length st.args.re.now) (length st.args.im.now) st.requires.0.layout st.requires.1 st.requires.0.start st.requires.0.whole st.requires.0.few st.requires.2 st.requires.3 in
    let few = z.from_few in
    let under = st.requires.0.under in
    record { fits = omega arith }

pub overflow_mul-periods : goal.overflow_mul-periods
overflow_mul-periods c =
    let st = c in
    let z = sizes st.args.plan.layout st.args.plan.from st.args.plan.count (length st.args.re.now) (length st.args.im.now) st.requires.0.layout st.requires.1 st.requires.0.start st.requires.0.whole st.requires.0.few st.requires.2 st.requires.3 in
    let few = z.sent_few in
    let two = z.twice in
    record { fits = omega arith }

pub qpsk_parts-requires : goal.qpsk_parts-requires
qpsk_parts-requires c =
    let st = c in
    let z = sizes st.args.plan.layout st.args.plan.from st.args.plan.count (length st.args.re.now) (length st.args.im.now) st.requires.0.layout st.requires.1 st.requires.0.start st.requires.0.whole st.requires.0.few st.requires.2 st.requires.3 in
    let few = z.sent_few in
    let two = z.twice in
    let long = st.requires.4 in
    (z.re_fits, z.im_fits, omega arith)

pub overflow_mul-periods-2 : goal.overflow_mul-periods-2
overflow_mul-periods-2 c =
    let st = c in
    let z = sizes st.args.plan.layout st.args.plan.from st.args.plan.count (length st.args.re.now) (length st.args.im.now) st.requires.0.layout st.requires.1 st.requires.0.start st.requires.0.whole st.requires.0.few st.requires.2 st.requires.3 in
    let few = z.sent_few in
    record { fits = omega arith }

pub soft_block-requires : goal.soft_block-requires
soft_block-requires c =
    let qpsk-parts = c in
    let st = qpsk-parts in
    let z = sizes st.args.plan.layout st.args.plan.from st.args.plan.count (length st.args.re.now) (length st.args.im.now) st.requires.0.layout st.requires.1 st.requires.0.start st.requires.0.whole st.requires.0.few st.requires.2 st.requires.3 in
    let few = z.sent_few in
    let two = z.twice in
    let long = st.requires.4 in
    let same = laid_long _ _ _ st.args.parts.now qpsk-parts.qpsk_parts.ensures (omega arith) in
    (omega arith, omega arith)

pub spread-requires : goal.spread-requires
spread-requires c =
    let soft-block = c in
    let st = soft-block in
    let z = sizes st.args.plan.layout st.args.plan.from st.args.plan.count (length st.args.re.now) (length st.args.im.now) st.requires.0.layout st.requires.1 st.requires.0.start st.requires.0.whole st.requires.0.few st.requires.2 st.requires.3 in
    let few = z.sent_few in
    let same = laid_long _ _ _ st.args.softs.now soft-block.soft_block.ensures (omega arith) in
    (st.requires.0.layout, st.requires.1, z.count_few, z.period_few, z.few, omega arith, omega arith)

pub returns : goal.returns
returns c =
    let soft-block = c in
    let qpsk-parts = soft-block in
    let st = qpsk-parts in
    let a = st.args in
    let h = st.requires.0.layout in
    let co = a.plan.layout.combination in
    let b = block_sizes co a.plan.count st.requires.0.whole st.requires.0.few in
    let ep = rw (h.period, h.count, b.2) at qpsk-parts.qpsk_parts.ensures in
    let es = rw (h.period, h.count) at soft-block.soft_block.ensures in
    (rw (h.period, b.3) at c.spread.ensures) ∙ qpsk_spread co a.re.now a.im.now a.plan.mapping a.plan.scale a.plan.from a.plan.count _ _ a.parts.now a.softs.now st.requires.1 st.requires.0.start st.requires.0.whole ep es a.pairs.now
