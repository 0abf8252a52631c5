use mathlib.Core.Path.{◌≡◌, refl, sym, ap, ◌∙◌}
use Prim.Native.Nat.{◌%◌}
use native.Mathlib.Omega.{arith}
use lib.ListN.{replicate}
use Rattle.trellis.specs.Lists.{upto}
use Rattle.trellis.specs.ListLaws.{set_replicate}
use Rattle.best_grid.specs.Costs.{ruled, begun, anywhere}
use Rattle.best_grid.specs.Best.{start_table}
use Rattle.best_forward.proofs.start_table.Goals as goal

zeros : replicate 64 0 ≡ anywhere
unfolding anywhere upto
zeros = refl

pub returns-in-Given : goal.returns-in-Given
unfolding begun
returns-in-Given c = set_replicate 64 (c.in-Given.s % 64) ruled 0 (omega arith) ∙ sym (ap start_table c.in-Given.is)

pub returns-in-Unknown : goal.returns-in-Unknown
returns-in-Unknown c = zeros ∙ sym (ap start_table c.in-Unknown.is)
