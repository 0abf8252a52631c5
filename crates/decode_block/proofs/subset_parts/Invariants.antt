-- `subset_parts` meets its contract.
use mathlib.Core.Path.{◌≡◌}
use Prim.Native.Nat.{◌+◌, ◌-◌, ◌*◌, ◌≤◌}
use lib.ListN.{length}
use Rattle.trellis.specs.Lists.{upto, laid}
use Rattle.decode_block.specs.Blocks.{fours, subset_parts}
use Rattle.decode_block.proofs.subset_parts.Given as goal

abbrev pub invariant-loop-s : goal.invariant-loop-s
invariant-loop-s l = (l.s ≤ l.n) × (length l.parts ≡ length l.initial.parts) × (l.parts ≡ laid (upto (fours (λ j. subset_parts l.re l.im l.m (l.k0 + j))) (4 * l.s)) l.initial.parts)

abbrev pub decreases-loop-s : goal.decreases-loop-s
decreases-loop-s l = l.n - l.s
