use borrow.Author.Rules.{rules}
use native.Mathlib.Omega.{arith}
use mathlib.Core.Path.{◌≡◌, ap}
use Prim.Native.Nat.{ℕ, ◌+◌, ◌*◌, ◌-◌}
use lib.Ieee.{nan}
use lib.ListN.{get_or}
use Rattle.encode_run.specs.Encoded.{pair_label}
use Rattle.encode_run.specs.PieceLaws.{put_none, put_one}
use Rattle.encode_run.proofs.put_pairs.Goals as goal

pub loop-i-init : goal.loop-i-init
loop-i-init c = (search rules, put_none _ _ c.args.re.now c.args.im.now)

pub digit-a-requires : goal.digit-a-requires
digit-a-requires c = omega (arith, c.requires.3 c.loop-i.i c.loop-i-test.true)

pub digit-b-requires : goal.digit-b-requires
digit-b-requires c = omega (arith, c.requires.4 c.loop-i.i c.loop-i-test.true)

pub loop-i-preserved : goal.loop-i-preserved
loop-i-preserved c =
    let digit = c in
    let at = digit in
    let st = at in
    let i = at.loop-i.i in
    let l = 2 * digit.digit-a.result + c.digit-b.result in
    let e : l ≡ pair_label st.args.word st.args.s1.now st.args.s0.now i = rw (digit.digit-a.ensures, c.digit-b.ensures) in (
      omega arith,
      put_one at.loop-i.invariant.1 (get_or st.args.xs.now l nan) (get_or st.args.ys.now l nan) (omega arith) (omega arith)
          (ap (λ (x : ℕ). get_or st.args.xs.now x nan) e) (ap (λ (x : ℕ). get_or st.args.ys.now x nan) e),
    )

pub returns : goal.returns
returns c =
    let r = c.loop-i.invariant.1 in
    let e : c.loop-i.i ≡ c.args.count = omega arith in
    (rw e at r.re_is, rw e at r.im_is)
