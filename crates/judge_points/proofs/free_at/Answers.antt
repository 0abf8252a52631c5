use mathlib.Core.Path.{refl, ◌∙◌}
use mathlib.Core.Bool.{true, false}
use Prim.Native.Nat.{◌-◌, ◌<◌, ◌≤◌}
use lib.ListN.{length}
use native.Mathlib.Omega.{arith}
use Rattle.isdbs_combination.specs.Combinations.{modulation_of}
use Rattle.margins.specs.Margins.{is_bpsk}
use Rattle.judge_points.proofs.Runs.{passed_more, found, past_all}
use Rattle.judge_points.proofs.free_at.Goals as goal

pub loop-run-init : goal.loop-run-init
loop-run-init c = (refl, refl)

pub returns-then-k-run : goal.returns-then-k-run
returns-then-k-run c =
    let a = c in
    let at = c.loop-run in
    let k = a.args.k in
    let l : at.run-index < length a.args.list = omega arith in
    (found true (λ r. false) a.args.list k at.run-index l at.invariant.0 c.if-k-run.true, c.is_bpsk.ensures ∙ found true (λ r. is_bpsk (modulation_of r.combination)) a.args.list k at.run-index l at.invariant.1 c.if-k-run.true)

pub loop-run-preserved : goal.loop-run-preserved
loop-run-preserved c =
    let a = c in
    let at = c.loop-run in
    let k = a.args.k in
    let l : at.run-index < length a.args.list = omega arith in
    (passed_more true (λ r. false) a.args.list k at.run-index l at.invariant.0 c.if-k-run.false, passed_more true (λ r. is_bpsk (modulation_of r.combination)) a.args.list k at.run-index l at.invariant.1 c.if-k-run.false)

pub returns : goal.returns
returns c =
    let a = c in
    let at = c.loop-run in
    let l : length a.args.list ≤ at.run-index = omega arith in
    (past_all true (λ r. false) a.args.list a.args.k at.run-index l at.invariant.0, past_all true (λ r. is_bpsk (modulation_of r.combination)) a.args.list a.args.k at.run-index l at.invariant.1)
