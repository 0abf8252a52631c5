-- `spread` meets its contract.
use mathlib.Core.Path.{◌≡◌}
use Prim.Native.Nat.{◌-◌, ◌*◌, ◌≤◌}
use lib.ListN.{length}
use Rattle.trellis.specs.Lists.{upto, laid}
use Rattle.isdbs_points.specs.Layout.{order_of, steps_per_period}
use Rattle.decode_block.specs.Blocks.{spread_soft}
use Rattle.decode_block.proofs.spread.Given as goal

abbrev pub invariant-loop-t : goal.invariant-loop-t
invariant-loop-t l =
    (l.t ≤ l.n)
    × (l.from ≤ 8 * l.t)
    × (l.to ≤ 14 * l.t)
    × (l.from ≡ l.t * length (order_of l.layout.combination))
    × (l.to ≡ l.t * (2 * steps_per_period l.layout.combination))
    × (length l.pairs ≡ length l.initial.pairs)
    × (l.pairs ≡ laid (upto (spread_soft l.layout.combination l.softs) l.to) l.initial.pairs)

abbrev pub decreases-loop-t : goal.decreases-loop-t
decreases-loop-t l = l.n - l.t
