use Rattle.header_align.specs.Align.{turned_im}
use mathlib.Core.Path.{refl}
use Rattle.header_align.proofs.turned_im.Goals as goal

pub returns : goal.returns
unfolding turned_im
returns c = refl
