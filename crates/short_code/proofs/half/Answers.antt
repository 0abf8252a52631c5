-- `short_code::half` meets its contract.
use Rattle.short_code.proofs.Coded.{half_fits}
use mathlib.Core.Path.{refl}
use Rattle.short_code.proofs.half.Goals as goal

pub returns : goal.returns
returns c = half_fits c.args.code _ c.requires.0 c.requires.1 refl
