use borrow.Author.Rules.{rules}
use native.Mathlib.Omega.{arith}
use mathlib.Core.Path.{◌≡◌, sym, ◌∙◌, ap}
use Prim.Native.Nat.{ℕ, ◌*◌, ◌-◌, ◌/◌, ◌%◌}
use mathlib.Core.List.{[], ◌∷◌}
use lib.Ieee.{nan, neg}
use lib.ListN.{get_or, length-set}
use Rattle.isdbs_combination.specs.declared.Combination.TheVariants.{Bpsk1_2}
use Rattle.isdbs_points.specs.declared.Cplx.{Cplx}
use Rattle.isdbs_points.specs.Points.{one64}
use Rattle.isdbs_points.specs.Pieces.{piece_label}
use Rattle.encode_run.specs.PieceLaws.{going_start, going_step, going_put, going_as, going_end, piece_input, piece_label_lem, bpsk_x, bpsk_y, sign_at}
use Rattle.encode_run.proofs.encode_bpsk.Goals as goal

pub loop-k-init : goal.loop-k-init
loop-k-init c =
    (search rules, going_start _ c.args.start _ _ c.args.re.now c.args.im.now c.requires.0)

pub bounds-signs-l : goal.bounds-signs-l
bounds-signs-l c = let h = c.encode_step-sent.ensures.3 in search rules

pub bounds-signs-l-in-loop-k : goal.bounds-signs-l-in-loop-k
bounds-signs-l-in-loop-k c = let h = c.encode_step-sent.ensures.3 in search rules

pub bounds-re-k-in-loop-k : goal.bounds-re-k-in-loop-k
bounds-re-k-in-loop-k c = rw length-set (omega arith)

pub bounds-im-k-in-loop-k : goal.bounds-im-k-in-loop-k
bounds-im-k-in-loop-k c = rw length-set (omega arith)

pub loop-k-preserved : goal.loop-k-preserved
loop-k-preserved c =
    let st = c in
    let bytes = st.args.bytes.now in
    let bit = st.args.bit in
    let n = st.args.n in
    let start = st.args.start in
    let m = st.args.m in
    let k = c.loop-k.k in
    let h = c.loop-k-test.true in
    let inv = c.loop-k.invariant.1 in
    let l = c.encode_step-sent.result.label in
    let sent = c.encode_step-sent.ensures in
    let e : l ≡ piece_label Bpsk1_2 bytes bit n start k = piece_label_lem Bpsk1_2 bytes bit n start k h l c.loop-k.state inv.state_is sent.0 in
    let r1 = bpsk_x m bytes bit n start k in
    let r2 = bpsk_y m bytes bit n start k in
    let x = get_or (one64 ∷ neg one64 ∷ []) (l / 2) nan in
    let y = get_or (one64 ∷ neg one64 ∷ []) (l % 2) nan in
    let i = c.mirror-y.result in
    let a = going_step inv c.encode_step-sent.result.state sent.2 (rw (piece_input Bpsk1_2 bytes bit n start k h) sent.1) in
    let b = going_put a x i (omega arith) (omega arith)
    (sign_at (l / 2) (omega (arith, sent.3)) ∙ rw e (sym (ap (λ (z : Cplx). z.re) r1))) (c.mirror-y.ensures ∙ sym (ap (λ (z : Cplx). z.im) r1)) in
    let d = going_put b y i (omega (arith, b.points.re_length)) (omega (arith, b.points.im_length))
    (sign_at (l % 2) (omega arith) ∙ rw e (sym (ap (λ (z : Cplx). z.re) r2))) (c.mirror-y.ensures ∙ sym (ap (λ (z : Cplx). z.im) r2)) in
    (omega arith, going_as d (omega arith))

pub returns : goal.returns
returns c =
    let st = c in
    let inv = c.loop-k.invariant.1 in
    let e : c.loop-k.k ≡ st.args.n = omega arith in
    going_end Bpsk1_2 st.args.m st.args.bytes.now st.args.bit st.args.n st.args.start inv e (ap (λ (x : ℕ). 2 * x) e)
