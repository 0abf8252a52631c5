-- `layout` meets its contract.
use Rattle.isdbs_metrics.proofs.layout.Goals as goal

pub returns : goal.returns
returns c = rw c.modulation.ensures
