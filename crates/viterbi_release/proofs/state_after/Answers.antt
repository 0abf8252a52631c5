use mathlib.Core.Path.{◌≡◌, ◌∙◌}
use Prim.Native.Nat.{◌-◌, ◌<◌}
use native.Mathlib.Omega.{arith}
use native.Mathlib.Nat.{sub_self}
use borrow.Author.Rules.{rules}
use Rattle.trellis.specs.Step.{back}
use Rattle.trellis.proofs.RunLaws.{back_more}
use Rattle.viterbi_release.proofs.state_after.Goals as goal

pub loop-t-init : goal.loop-t-init
unfolding back
loop-t-init c = (search rules, omega arith, search rules, rw (sub_self c.args.n))

pub loop-t-preserved : goal.loop-t-preserved
loop-t-preserved c =
    let at = c in
    let start = at in
    let t = at.loop-t.t in
    let inv = at.loop-t.invariant in
    let pos : 0 < t = omega arith in
    (omega arith, omega arith, c.step_back-s.ensures.1, c.step_back-s.ensures.0 ∙ back_more 32 start.args.decisions.now start.args.n start.args.state t at.loop-t.s pos inv.1 inv.3)

pub returns : goal.returns
returns c =
    let at = c in
    let e : at.loop-t.t ≡ at.args.count = omega arith in
    (at.loop-t.invariant.2, rw e at at.loop-t.invariant.3)
