-- `decode_bytes::last_state` meets its contract: the last six bits alone are in the state.
use mathlib.Core.Path.{◌≡◌, refl}
use Prim.Native.Nat.{◌+◌, ◌-◌, ◌*◌}
use native.Mathlib.Omega.{arith}
use lib.ListN.{length-drop}
use lib.Seq.{get_or-drop}
use Rattle.trellis.specs.Code.{state_at}
use Rattle.decode_bytes.specs.PackingLaws.{state_more}
use Rattle.isdbs_metrics.specs.FrameRunLaws.{tail_is}
use Rattle.decode_bytes.proofs.ByteState.{state_small}
use Rattle.decode_bytes.proofs.last_state.Goals as goal

pub returns-then-n-eq0 : goal.returns-then-n-eq0
unfolding state_at
returns-then-n-eq0 c =
    let st = c in
    let e : st.args.n ≡ 0 = omega arith in
    rw e (refl, st.requires.0)

pub six_state-requires : goal.six_state-requires
six_state-requires c =
    let st = c in
    let us = st.args.bits.now in
    let from = 8 * st.args.n - 6 in
    let e = length-drop from us in
    rw (tail_is from us) (omega arith, λ i l. rw (get_or-drop from us i 0) (st.requires.3 (from + i) (omega arith)))

pub returns : goal.returns
returns c =
    let st = c in
    let us = st.args.bits.now in
    let n = st.args.n in
    let from = 8 * n - 6 in
    let before = state_at 32 st.args.start us from in
    let small = state_small st.args.start us from st.requires.0 (λ i l. st.requires.3 i (omega arith)) in
    let got = rw (tail_is from us) at c.six_state.ensures in
    (state_more st.args.start us from 6 (8 * n) before _ (omega arith) refl (got.1 before small), got.0)
