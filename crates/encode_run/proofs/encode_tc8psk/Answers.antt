use borrow.Author.Rules.{rules}
use native.Mathlib.Omega.{arith}
use mathlib.Core.Path.{◌≡◌, sym, ◌∙◌, ap}
use Prim.Native.Nat.{ℕ, ◌+◌, ◌*◌, ◌/◌, ◌%◌, ◌<◌, ◌≤◌}
use lib.Ieee.{nan}
use lib.ListN.{get_or, length-take, length-drop}
use Rattle.trellis.specs.Lists.{upto}
use Rattle.encode_bits.specs.Windows.{backward}
use Rattle.encode_bits.specs.WindowLaws.{backward_twice}
use Rattle.isdbs_combination.specs.declared.Combination.TheVariants.{Tc8psk2_3}
use Rattle.isdbs_points.specs.declared.Cplx.{Cplx}
use Rattle.encode_run.specs.Encoded.{byte_register}
use Rattle.encode_run.specs.PieceLaws.{going_start, going_cong, going_end, tail_back}
use Rattle.encode_run.proofs.EncodeTc8psk.{tc8psk_register, tc8psk_register_small, tc8psk_labelled, byte_at, going_byte}
use Rattle.encode_run.proofs.encode_tc8psk.Goals as goal

pub loop-j-init : goal.loop-j-init
loop-j-init c =
    let st = c in
    let e : backward c.reversed-state.result ≡ st.args.start = ap (λ (x : ℕ). backward x) c.reversed-state.ensures.0 ∙ backward_twice st.args.start st.requires.0 in
    (omega arith, rw e (going_start _ st.args.start _ _ st.args.re.now st.args.im.now st.requires.0), c.reversed-state.ensures.1)

pub put_byte-state-requires : goal.put_byte-state-requires
put_byte-state-requires c =
    let st = c in
    let inv = c.loop-j.invariant in
    let h : 4 * c.loop-j.j + 4 ≤ st.args.n = omega (arith, c.loop-j-test.true) in
    (inv.2, simp (length-take, length-drop) (omega (arith, inv.1.points.re_length, st.requires.2)), simp (length-take, length-drop) (omega (arith, inv.1.points.im_length, st.requires.3)))

pub loop-j-preserved : goal.loop-j-preserved
loop-j-preserved c =
    let st = c in
    let bytes = st.args.bytes.now in
    let bit = st.args.bit in
    let t = c.register_table-t.result in
    let k = 4 * c.loop-j.j in
    let inv = c.loop-j.invariant in
    let state = c.loop-j.state in
    let h : k + 4 ≤ st.args.n = omega (arith, c.loop-j-test.true) in
    let fours : k % 4 ≡ 0 = omega arith in
    let quarter : k / 4 ≡ c.loop-j.j = omega arith in
    let byte = byte_at bytes bit k st.requires.4 fours in
    let read : c.load_byte-byte.result ≡ byte = c.load_byte-byte.ensures ∙ ap (λ (x : ℕ). get_or bytes (bit / 8 + x) 0) (sym quarter) in
    let put = rw read at c.put_byte-state.ensures in
    let next : 4 * (c.loop-j.j + 1) ≡ k + 4 = omega arith in (
      omega (arith, c.loop-j-test.true),
      rw next (going_byte bytes bit k st.requires.4 fours st.args.n st.args.start t.re t.im state inv.1 h st.requires.2 st.requires.3 c.put_byte-state.result put.state_is
          (tail_back k c.loop-j.re (upto (λ i. get_or t.re (byte_register byte (backward state) i) nan) 4) (omega (arith, inv.1.points.re_length, st.requires.2)) put.re_is)
          (tail_back k c.loop-j.im (upto (λ i. get_or t.im (byte_register byte (backward state) i) nan) 4) (omega (arith, inv.1.points.im_length, st.requires.3)) put.im_is)),
      put.small,
    )

pub returns : goal.returns
returns c =
    let st = c in
    let bytes = st.args.bytes.now in
    let bit = st.args.bit in
    let n = st.args.n in
    let start = st.args.start in
    let m = st.args.m in
    let t = c.register_table-t.ensures in
    let e : 4 * c.loop-j.j ≡ n = omega (arith, st.requires.5, c.loop-j-test.false) in
    going_end Tc8psk2_3 m bytes bit n start
    (going_cong (rw (← c.reversed.ensures.0) at c.loop-j.invariant.1)
    (λ i h. let l : i < n = omega arith in t.re_at (tc8psk_register bytes bit n start i) (tc8psk_register_small bytes bit n start st.requires.0 i l) ∙ ap (λ (z : Cplx). z.re) (tc8psk_labelled bytes bit n start st.requires.0 i l m))
    (λ i h. let l : i < n = omega arith in t.im_at (tc8psk_register bytes bit n start i) (tc8psk_register_small bytes bit n start st.requires.0 i l) ∙ ap (λ (z : Cplx). z.im) (tc8psk_labelled bytes bit n start st.requires.0 i l m)))
    e e
