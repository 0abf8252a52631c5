use mathlib.Core.Path.{◌≡◌}
use Prim.Native.Nat.{◌-◌, ◌<◌}
use native.Mathlib.Omega.{arith}
use native.Mathlib.Nat.{sub_self}
use borrow.Author.Rules.{rules}
use Rattle.trellis.specs.Step as trellis
use Rattle.trellis.specs.Step.{back}
use Rattle.trellis.proofs.RunLaws.{back_more}
use Rattle.best_content.proofs.traced_start.Goals as goal

pub loop-t-init : goal.loop-t-init
unfolding back
loop-t-init c = let n = c.args.n in
    (omega arith, search rules, rw (sub_self n))

pub loop-t-preserved : goal.loop-t-preserved
unfolding trellis.kept
loop-t-preserved c = let at = c in
    let a = at.args in
    let t = at.loop-t.t in
    let inv = at.loop-t.invariant in
    let pos : 0 < t = omega arith in
    (omega arith, omega arith, back_more 32 a.decisions.now a.n a.state t at.loop-t.s pos inv.0 inv.2)

pub returns : goal.returns
returns c = let at = c in
    let e : at.loop-t.t ≡ 0 = omega arith in
    let f : at.args.n - 0 ≡ at.args.n = omega arith in
    (at.loop-t.invariant.1, rw f at (rw e at at.loop-t.invariant).2)
