use borrow.Author.Rules.{rules}
use native.Mathlib.Omega.{arith}
use mathlib.Core.Path.{◌≡◌, ap}
use Prim.Native.Nat.{ℕ, ◌+◌, ◌*◌, ◌-◌, ◌/◌, ◌%◌, ◌≤◌, ◌^◌}
use native.Mathlib.Nat.{mod-lt}
use lib.Dec.{lit<, lit≤}
use lib.Ieee.{nan}
use lib.ListN.{get_or}
use Rattle.encode_bits.specs.Windows.{backward}
use Rattle.encode_bits.specs.Bits.{byte_inputs}
use Rattle.encode_run.specs.Encoded.{byte_register}
use Rattle.encode_run.specs.PieceLaws.{put_none, put_one}
use Rattle.encode_run.proofs.Windowed.{joined_register, joined_state}
use Rattle.encode_run.proofs.put_byte.Goals as goal

pub loop-i-init : goal.loop-i-init
loop-i-init c = (search rules, put_none _ _ c.args.re.now c.args.im.now)

pub loop-i-preserved : goal.loop-i-preserved
loop-i-preserved c =
    let at = c in
    let inputs = at.coded_inputs in
    let st = at in
    let byte = st.args.byte in
    let start = st.args.start in
    let i = at.loop-i.i in
    let u = inputs.result in
    let join : 16 * start + u ≡ start * 2 ^ 4 + u = omega arith in
    let register = joined_register start 4 u (byte_inputs byte) inputs.ensures st.requires.0 (lit≤ tt) i c.loop-i-test.true in
    let w = 128 * c.byte_bit-c2.result + (16 * start + u) / 2 ^ (3 - i) % 128 in
    let e : w ≡ byte_register byte (backward start) i = rw (c.byte_bit-c2.ensures, join, register) in (
      omega arith,
      put_one at.loop-i.invariant.1 (get_or st.args.xs.now w nan) (get_or st.args.ys.now w nan) (omega arith) (omega arith)
          (ap (λ (x : ℕ). get_or st.args.xs.now x nan) e) (ap (λ (x : ℕ). get_or st.args.ys.now x nan) e),
    )

pub returns : goal.returns
returns c =
    let st = c in
    let start = st.args.start in
    let u = c.coded_inputs.result in
    let inv = c.loop-i.invariant.1 in
    let e : c.loop-i.i ≡ 4 = omega arith in
    let g = rw e at inv in
    let join : 16 * start + u ≡ start * 2 ^ 4 + u = omega arith in
    record {
      small = mod-lt (16 * start + u) (lit< tt);
      state_is = rw join (joined_state start 4 u (byte_inputs st.args.byte) c.coded_inputs.ensures st.requires.0 (lit≤ tt));
      re_is = g.re_is;
      im_is = g.im_is;
    }
