-- `bad_scale` meets its contract.
use mathlib.Core.Path.{refl}
use Rattle.isdbs_rows.proofs.bad_scale.Goals as goal

pub returns : goal.returns
returns c = refl
