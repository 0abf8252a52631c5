use Rattle.decode_bytes.specs.PackingLaws.{byte_more, plain_is}
use Rattle.isdbs_metrics.specs.FrameRunLaws.{tail_is}
use Rattle.trellis.specs.LaidLaws.{length_laid_upto}
use lib.Seq.{get_or-drop}
use lib.ListN.{length-drop, length, get_or}
use borrow.Author.Rules.{rules}
use Rattle.isdbs_points.specs.Layout.{byte_of}
use Rattle.trellis.specs.Lists.{upto}
use native.Mathlib.Omega.{arith}
use Prim.Native.Nat.{◌+◌, ◌*◌}
use mathlib.Core.Path.{◌≡◌, refl, ◌∙◌, ap}
use Rattle.decode_bytes.proofs.pack_plain.Goals as goal

pub loop-j-init : goal.loop-j-init
unfolding upto
loop-j-init c = (search rules, refl)

pub plain_byte-requires : goal.plain_byte-requires
plain_byte-requires c =
    let st = c in
    let j = c.loop-j.j in
    let us = st.args.bits.now in
    let t = c.loop-j-test.true in
    let e = length-drop (8 * j) us in
    rw (tail_is (8 * j) us) (omega arith, λ i l. rw (get_or-drop (8 * j) us i 0) (st.requires.3 (8 * j + i) (omega arith)))

pub bounds-bytes-j : goal.bounds-bytes-j
bounds-bytes-j c =
    let st = c in
    let j = c.loop-j.j in
    let e = ap length c.loop-j.invariant.1 ∙ length_laid_upto (λ h. byte_of (λ i. get_or st.args.bits.now (8 * h + i) 0)) j st.args.bytes.now (omega arith) in
    omega arith

pub loop-j-preserved : goal.loop-j-preserved
loop-j-preserved c =
    let st = c in
    let j = c.loop-j.j in
    let us = st.args.bits.now in
    let h = c.loop-j.invariant in
    let n = rw (tail_is (8 * j) us) at c.plain_byte.ensures in
    (omega arith, byte_more (λ h. byte_of (λ i. get_or st.args.bits.now (8 * h + i) 0)) j _ _ st.args.bytes.now (omega arith) h.1 (plain_is us j _ n))

pub last_state-requires : goal.last_state-requires
last_state-requires c =
    let st = c in
    (st.requires.0, st.requires.1, st.requires.2, st.requires.3)

pub shape_of-bytes : goal.shape_of-bytes
shape_of-bytes c =
    let at = c in
    let st = at in
    ap length at.loop-j.invariant.1 ∙ length_laid_upto (λ h. byte_of (λ i. get_or st.args.bits.now (8 * h + i) 0)) at.loop-j.j st.args.bytes.now (omega arith)

pub returns : goal.returns
returns c =
    let at = c in
    let st = at in
    let e : at.loop-j.j ≡ st.args.n = omega arith in
    let h = rw e at at.loop-j.invariant in
    (h.1, c.last_state.ensures.0, c.last_state.ensures.1)
