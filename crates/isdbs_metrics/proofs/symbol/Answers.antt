-- `symbol` meets its contract.
use Rattle.isdbs_metrics.proofs.symbol.Goals as goal

pub returns : goal.returns
returns c = rw c.mirror.ensures
