-- `viterbi_branches::metric_of` meets its contract: the metric is that of the branch's number.
use Prim.Native.Nat.{◌+◌, ◌*◌}
use Rattle.trellis.specs.Code.{isdb}
use Rattle.trellis.proofs.RunLaws.{label_under}
use Rattle.viterbi_branches.proofs.metric_of.Goals as goal

pub metric-requires : goal.metric-requires
metric-requires c =
    let a = c.args in
    rw c.number.ensures (label_under isdb a.u (2 * a.j + a.b))

pub returns : goal.returns
returns c = rw c.number.ensures at c.metric.ensures
