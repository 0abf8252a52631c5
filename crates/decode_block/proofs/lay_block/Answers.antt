-- `lay_block` meets its contract.
use mathlib.Core.Path.{◌≡◌, sym, ◌∙◌}
use native.Mathlib.Nat.{le_trans}
use native.Mathlib.Omega.{arith}
use lib.Dec.{lit≤}
use lib.ListN.{length}
use Rattle.decode_block.proofs.Laws.{laid_long}
use Rattle.decode_block.proofs.ByModulation.{steps_few, bpsk_room, bpsk_made, qpsk_made, tc8psk_room, tc8psk_few, tc8psk_made, pair_marks, marks_made}
use Rattle.decode_block.proofs.lay_block.Goals as goal

pub bpsk_softs-requires : goal.bpsk_softs-requires
bpsk_softs-requires c =
    let st = c in
    let co = st.args.plan.layout.combination in
    let e = sym st.requires.0.layout.modulation ∙ c.in-Bpsk.is in
    let few = steps_few co st.args.plan.count st.requires.0.few in
    (bpsk_room co st.args.plan.from st.args.plan.count _ e st.requires.1, omega arith)

pub lay_pairs-requires : goal.lay_pairs-requires
lay_pairs-requires c =
    let bpsk-softs = c in
    let st = bpsk-softs in
    let few = steps_few st.args.plan.layout.combination st.args.plan.count st.requires.0.few in
    let long = st.requires.4 in
    let same = laid_long _ _ _ st.args.pairs.now bpsk-softs.bpsk_softs.ensures (omega arith) in
    (omega arith, omega arith, omega arith)

pub qpsk_softs-requires : goal.qpsk_softs-requires
qpsk_softs-requires c =
    let st = c in
    let e = sym st.requires.0.layout.modulation ∙ c.in-Qpsk.is in
    (st.requires.0, e, st.requires.1, st.requires.2, st.requires.3, le_trans (lit≤ tt) st.requires.6, st.requires.4)

pub lay_pairs-requires-in-Qpsk : goal.lay_pairs-requires-in-Qpsk
lay_pairs-requires-in-Qpsk c =
    let qpsk-softs = c in
    let st = qpsk-softs in
    let kept : length qpsk-softs.qpsk_softs.new.softs ≡ length st.args.block.now = qpsk-softs.qpsk_softs.auto.softs in
    let few = steps_few st.args.plan.layout.combination st.args.plan.count st.requires.0.few in
    let long = st.requires.4 in
    let same = laid_long _ _ _ st.args.pairs.now qpsk-softs.qpsk_softs.ensures (omega arith) in
    (omega arith, omega arith, omega arith)

pub subset_parts-requires : goal.subset_parts-requires
subset_parts-requires c =
    let st = c in
    let co = st.args.plan.layout.combination in
    let e = sym st.requires.0.layout.modulation ∙ c.in-Tc8psk.is in
    let few = tc8psk_few co st.args.plan.count e st.requires.0.few in
    let long = st.requires.3 in
    (tc8psk_room co st.args.plan.from st.args.plan.count _ e st.requires.1, tc8psk_room co st.args.plan.from st.args.plan.count _ e st.requires.2, omega arith)

pub magnitude_block-requires : goal.magnitude_block-requires
magnitude_block-requires c =
    let subset-parts = c in
    let enum-told3 = subset-parts in
    let st = enum-told3 in
    let co = st.args.plan.layout.combination in
    let e = sym st.requires.0.layout.modulation ∙ enum-told3.in-Tc8psk.is in
    let few = tc8psk_few co st.args.plan.count e st.requires.0.few in
    let long = st.requires.3 in
    let same = laid_long _ _ _ st.args.parts.now subset-parts.subset_parts.ensures (omega arith) in
    (omega arith, omega arith)

pub mark_block-requires : goal.mark_block-requires
mark_block-requires c =
    let magnitude-block = c in
    let st = magnitude-block in
    let few = steps_few st.args.plan.layout.combination st.args.plan.count st.requires.0.few in
    let long = st.requires.6 in
    let same = laid_long _ _ _ st.args.block.now magnitude-block.magnitude_block.ensures (omega arith) in
    (omega arith, omega arith)

pub returns-in-Bpsk : goal.returns-in-Bpsk
returns-in-Bpsk c =
    let lay-pairs = c in
    let bpsk-softs = lay-pairs in
    let at-enum-told = bpsk-softs in
    let st = at-enum-told in
    let a = st.args in
    let co = a.plan.layout.combination in
    let e = sym st.requires.0.layout.modulation ∙ at-enum-told.in-Bpsk.is in
    let few = steps_few co a.plan.count st.requires.0.few in
    let long = st.requires.6 in
    let laying = lay-pairs.lay_pairs.ensures in
    let pairs = bpsk-softs.bpsk_softs.new.pairs in
    let same = laid_long _ _ _ a.block.now laying.0 (omega arith) in
    let made = bpsk_made co a.re.now a.im.now a.plan.mapping a.plan.scale a.plan.from a.plan.count _ a.pairs.now _ a.block.now e (omega arith) bpsk-softs.bpsk_softs.ensures laying.0 in
    record { made = made; marked = laying.1 ∙ pair_marks pairs _ a.plan.count a.block.now a.wide.now laying.0 ∙ marks_made co a.re.now a.im.now a.plan.mapping a.plan.scale a.plan.from a.plan.count _ a.wide.now made }

pub returns-in-Qpsk : goal.returns-in-Qpsk
returns-in-Qpsk c =
    let lay-pairs2 = c in
    let qpsk-softs = lay-pairs2 in
    let enum-told2 = qpsk-softs in
    let st = enum-told2 in
    let a = st.args in
    let co = a.plan.layout.combination in
    let e = sym st.requires.0.layout.modulation ∙ enum-told2.in-Qpsk.is in
    let few = steps_few co a.plan.count st.requires.0.few in
    let long = st.requires.6 in
    let laying = lay-pairs2.lay_pairs-in-Qpsk.ensures in
    let pairs = qpsk-softs.qpsk_softs.new.pairs in
    let softs = qpsk-softs.qpsk_softs.new.softs in
    let kept : length softs ≡ length a.block.now = qpsk-softs.qpsk_softs.auto.softs in
    let same = laid_long _ _ _ softs laying.0 (omega arith) in
    let made = qpsk_made co a.re.now a.im.now a.plan.mapping a.plan.scale a.plan.from a.plan.count _ a.pairs.now _ softs e (omega arith) qpsk-softs.qpsk_softs.ensures laying.0 in
    record { made = made; marked = laying.1 ∙ pair_marks pairs _ a.plan.count softs a.wide.now laying.0 ∙ marks_made co a.re.now a.im.now a.plan.mapping a.plan.scale a.plan.from a.plan.count _ a.wide.now made }

pub returns-in-Tc8psk : goal.returns-in-Tc8psk
returns-in-Tc8psk c =
    let magnitude-block = c in
    let subset-parts = magnitude-block in
    let enum-told3 = subset-parts in
    let st = enum-told3 in
    let a = st.args in
    let co = a.plan.layout.combination in
    let e = sym st.requires.0.layout.modulation ∙ enum-told3.in-Tc8psk.is in
    let few = tc8psk_few co a.plan.count e st.requires.0.few in
    let long = st.requires.6 in
    let magnitudes = magnitude-block.magnitude_block.ensures in
    let same = laid_long _ _ _ a.block.now magnitudes (omega arith) in
    let made = tc8psk_made co a.re.now a.im.now a.plan.mapping a.plan.scale a.plan.from a.plan.count _ a.parts.now _ a.block.now e (omega arith) subset-parts.subset_parts.ensures magnitudes in
    record { made = made; marked = c.mark_block.ensures ∙ marks_made co a.re.now a.im.now a.plan.mapping a.plan.scale a.plan.from a.plan.count _ a.wide.now made }
