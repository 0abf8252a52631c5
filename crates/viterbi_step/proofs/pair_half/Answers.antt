use mathlib.Core.Path.{◌≡◌}
use Prim.Native.Nat.{◌-◌, ◌<◌}
use native.Mathlib.Omega.{arith}
use Rattle.trellis.specs.Step.{pair}
use Rattle.viterbi_step.proofs.Turn.{half_none, half_more}
use Rattle.viterbi_step.proofs.pair_half.Goals as goal

pub loop-j-init : goal.loop-j-init
loop-j-init c =
    let start = c in
    (omega arith, omega arith, half_none start.args.old (pair start.args.lx start.args.ly) start.args.u start.args.new.now c.states-n.ensures.1)

pub loop-j-preserved : goal.loop-j-preserved
loop-j-preserved c =
    let chosen = c in
    let upper = chosen in
    let lower = upper in
    let turn = lower in
    let at = turn in
    let start = at in
    let j = at.loop-j.j in
    let inv = at.loop-j.invariant in
    let h : j < 32 = rw inv.0 at turn.loop-j-test.true in (
      inv.0,
      omega arith,
      half_more start.args.old (pair start.args.lx start.args.ly) start.args.u start.args.new.now j at.loop-j.new at.loop-j.w inv.2 start.requires.0 h _ _ _ _
          lower.pair_path-even.ensures upper.pair_path-odd.ensures chosen.larger.ensures c.beats.ensures,
    )

pub returns : goal.returns
returns c =
    let at = c in
    let e : at.loop-j.j ≡ 32 = omega arith in
    rw e at at.loop-j.invariant.2
