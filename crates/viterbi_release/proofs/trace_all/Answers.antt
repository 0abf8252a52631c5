use mathlib.Core.Path.{◌≡◌, refl, ◌∙◌}
use Prim.Native.Nat.{◌+◌, ◌-◌, ◌/◌, ◌≤◌, ◌<◌}
use native.Mathlib.Omega.{arith}
use native.Mathlib.Nat.{sub_self}
use lib.ListN.{length, take, length-set}
use lib.Seq.{length-take-le, take_all}
use borrow.Author.Rules.{rules}
use Rattle.trellis.specs.Step as trellis
use Rattle.trellis.specs.Step.{back, input}
use Rattle.trellis.specs.Lists.{upto}
use Rattle.trellis.specs.ListLaws.{length_upto}
use Rattle.trellis.specs.WrittenLaws.{between_more, kept_set, laid_whole}
use Rattle.trellis.proofs.RunLaws.{back_more, input_read}
use Rattle.viterbi_release.proofs.trace_all.Goals as goal

pub loop-t-init : goal.loop-t-init
unfolding back
loop-t-init c =
    let n = c.args.n in
    (omega arith, refl, search rules, rw (sub_self n), λ i a b. absurd (omega arith), λ i h. refl)

pub loop-t-preserved : goal.loop-t-preserved
loop-t-preserved c =
    let at = c in
    let start = at in
    let d = start.args.decisions.now in
    let n = start.args.n in
    let state = start.args.state in
    let out₀ = start.args.out.now in
    let f = input 32 (take n d) n state in
    let t = at.loop-t.t in
    let s = at.loop-t.s in
    let out = at.loop-t.out in
    let inv = at.loop-t.invariant in
    let pos : 0 < t = omega arith in
    let j : t ≡ t - 1 + 1 = omega arith in
    let h : t - 1 < length out = omega arith in (
      omega arith,
      simp length-set inv.1,
      c.step_back-s.ensures.1,
      c.step_back-s.ensures.0 ∙ back_more 32 d n state t s pos inv.0 inv.3,
      between_more 0 f (t - 1) n out (s / 32) h (rw j at inv.4) (input_read 32 (take n d) n state t s pos inv.3),
      kept_set 0 out₀ n (t - 1) out (s / 32) (omega arith) inv.5,
    )

pub returns : goal.returns
unfolding trellis.traced
returns c =
    let at = c in
    let start = at in
    let inv = at.loop-t.invariant in
    let d = start.args.decisions.now in
    let n = start.args.n in
    let f = input 32 (take n d) n start.args.state in
    let hn : n ≤ length d = search rules in
    let whole : take n (upto f n) ≡ upto f n = take_all n (upto f n) (rw (length_upto f n) (omega arith)) in
    rw (length-take-le n d hn, ← whole)
    (laid_whole 0 f n n start.args.out.now at.loop-t.out (omega arith) (search rules) inv.1
    (λ i h. inv.4 i (omega arith) h) inv.5)
