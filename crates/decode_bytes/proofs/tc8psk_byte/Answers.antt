use mathlib.Core.Path.{◌≡◌, ◌∙◌, ap}
use Prim.Native.Nat.{◌+◌, ◌*◌, ◌/◌}
use lib.ListN.{get_or}
use lib.Ieee.{nan, lt}
use Rattle.trellis.specs.Lists.{bit}
use Rattle.isdbs_points.specs.declared.Cplx.{Cplx}
use Rattle.isdbs_points.specs.Points.{zero64, point, conjugated}
use Rattle.isdbs_metrics.specs.Reading.{correlation}
use native.Mathlib.Omega.{arith}
use Rattle.isdbs_metrics.specs.DigitLaws.{taken_first, taken_next, taken_all}
use Rattle.decode_c2.specs.RegisterLaws.{point_read}
use Rattle.decode_bytes.proofs.tc8psk_byte.Goals as goal

pub loop-i-init : goal.loop-i-init
loop-i-init c =
    let st = c in
    taken_first st.args.re.now st.args.im.now st.args.m st.args.start st.args.bits.now st.requires.1 st.requires.5

pub overflow_mul-register : goal.overflow_mul-register
overflow_mul-register c =
    let at = c.loop-i in
    let hs = at.invariant.small in
    let b = at.invariant.bits at.i (omega arith) in
    record { fits = omega arith }

pub overflow_add-register : goal.overflow_add-register
overflow_add-register c =
    let at = c.loop-i in
    let hs = at.invariant.small in
    let b = at.invariant.bits at.i (omega arith) in
    record { fits = omega arith }

pub uncoded_bit-c2-requires : goal.uncoded_bit-c2-requires
uncoded_bit-c2-requires c =
    let at = c.loop-i in
    let hs = at.invariant.small in
    let b = at.invariant.bits at.i (omega arith) in
    (omega arith, omega arith, omega arith)

pub overflow_add-byte-in-loop-i : goal.overflow_add-byte-in-loop-i
overflow_add-byte-in-loop-i c =
    let turn = c in
    let at = turn in
    let st = at in
    let u = get_or st.args.bits.now at.loop-i.i 0 in
    let s = at.loop-i.state in
    let b = at.loop-i.invariant.bits at.loop-i.i turn.loop-i-test.true in
    let read = point_read st.args.m.tc8psk_c1_is_y st.args.xs.now st.args.ys.now st.requires.0 u s b at.loop-i.invariant.small in
    let moves : (64 * u + s) / 2 ≡ 32 * u + s / 2 = omega arith in
    record { fits = (taken_next st.args.re.now st.args.im.now st.args.m st.args.start st.args.bits.now at.loop-i.byte s at.loop-i.i _ _ at.loop-i.invariant turn.loop-i-test.true moves (c.uncoded_bit-c2.ensures ∙ ap (λ (p : Cplx). bit (lt (correlation (point (get_or st.args.re.now at.loop-i.i nan) (conjugated st.args.m.conjugate (get_or st.args.im.now at.loop-i.i nan))) p) zero64)) read)).0 }

pub overflow_mul-byte : goal.overflow_mul-byte
overflow_mul-byte c =
    let f = (overflow_add-byte-in-loop-i c).fits in
    record { fits = omega arith }

pub overflow_add-byte : goal.overflow_add-byte
overflow_add-byte c =
    let f = (overflow_add-byte-in-loop-i c).fits in
    record { fits = omega arith }

pub overflow_mul-byte-in-loop-i : goal.overflow_mul-byte-in-loop-i
overflow_mul-byte-in-loop-i c =
    let f = (overflow_add-byte-in-loop-i c).fits in
    record { fits = omega arith }

pub loop-i-preserved : goal.loop-i-preserved
loop-i-preserved c =
    let turn = c in
    let at = turn in
    let st = at in
    let u = get_or st.args.bits.now at.loop-i.i 0 in
    let s = at.loop-i.state in
    let b = at.loop-i.invariant.bits at.loop-i.i turn.loop-i-test.true in
    let read = point_read st.args.m.tc8psk_c1_is_y st.args.xs.now st.args.ys.now st.requires.0 u s b at.loop-i.invariant.small in
    let moves : (64 * u + s) / 2 ≡ 32 * u + s / 2 = omega arith in
    (taken_next st.args.re.now st.args.im.now st.args.m st.args.start st.args.bits.now at.loop-i.byte s at.loop-i.i _ _ at.loop-i.invariant turn.loop-i-test.true moves (c.uncoded_bit-c2.ensures ∙ ap (λ (p : Cplx). bit (lt (correlation (point (get_or st.args.re.now at.loop-i.i nan) (conjugated st.args.m.conjugate (get_or st.args.im.now at.loop-i.i nan))) p) zero64)) read)).1

pub returns : goal.returns
returns c =
    let st = c in
    taken_all st.args.re.now st.args.im.now st.args.m st.args.start st.args.bits.now _ _ _ c.loop-i.invariant (omega arith)
