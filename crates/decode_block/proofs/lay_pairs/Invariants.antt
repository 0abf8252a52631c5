-- `lay_pairs` meets its contract.
use mathlib.Core.Path.{◌≡◌}
use Prim.Native.Nat.{◌-◌, ◌*◌, ◌≤◌}
use lib.ListN.{length}
use Rattle.trellis.specs.Lists.{upto, laid}
use Rattle.strain_marks.specs.Marks.{mark_of}
use Rattle.decode_block.specs.Blocks.{fours, pairs_at}
use Rattle.decode_block.proofs.lay_pairs.Given as goal

abbrev pub invariant-loop-s : goal.invariant-loop-s
invariant-loop-s l =
    (l.s ≤ l.n)
    × (length l.block ≡ length l.initial.block)
    × (length l.wide ≡ length l.initial.wide)
    × (l.block ≡ laid (upto (fours (pairs_at l.pairs)) (4 * l.s)) l.initial.block)
    × (l.wide ≡ laid (upto (λ i. mark_of (pairs_at l.pairs i)) l.s) l.initial.wide)

abbrev pub decreases-loop-s : goal.decreases-loop-s
decreases-loop-s l = l.n - l.s
