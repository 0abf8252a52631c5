use Rattle.header_align.specs.Align.{turned_re}
use mathlib.Core.Path.{refl}
use Rattle.header_align.proofs.turned_re.Goals as goal

pub returns : goal.returns
unfolding turned_re
returns c = refl
