use mathlib.Core.Path.{refl}
use Prim.Native.Nat.{◌-◌}
use native.Mathlib.Omega.{arith}
use Rattle.trellis.specs.Code.{label, output, tapped}
use Rattle.viterbi_branches.specs.BranchLaws.{branch_numbers}
use Rattle.viterbi_four.proofs.RowLaws.{row_more, row_whole}
use Rattle.viterbi_four.proofs.row00.Goals as goal

pub loop-j-init : goal.loop-j-init
loop-j-init c = (omega arith, refl, λ i h. absurd (omega arith))

pub metric_of-requires : goal.metric_of-requires
unfolding label output tapped
metric_of-requires c = (omega arith, omega arith, omega arith, branch_numbers _ tt)

pub loop-j-preserved : goal.loop-j-preserved
loop-j-preserved c =
    let turn = c in
    let at = turn in
    row_more at.args.m 0 0 at.loop-j.j at.loop-j.r _ at.loop-j.invariant turn.loop-j-test.true c.metric_of.ensures

pub returns : goal.returns
returns c =
    let at = c in
    row_whole at.args.m 0 0 at.loop-j.j at.loop-j.r at.loop-j.invariant (omega arith)
