use Rattle.best_content.proofs.Differing.{fars_is}
use Rattle.best_content.proofs.none_differs.Goals as goal

pub returns : goal.returns
returns c = fars_is
