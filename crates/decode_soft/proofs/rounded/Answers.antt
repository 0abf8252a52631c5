-- `rounded` meets its contract.
use mathlib.Core.Path.{refl}
use Rattle.decode_soft.proofs.rounded.Goals as goal

pub returns : goal.returns
returns c = refl
