-- `mark_block` meets its contract.
use mathlib.Core.Path.{◌≡◌}
use Prim.Native.Nat.{◌-◌, ◌≤◌}
use lib.ListN.{length}
use Rattle.trellis.specs.Lists.{upto, laid}
use Rattle.trellis.specs.Run.{four_steps}
use Rattle.strain_marks.specs.Marks.{mark_of}
use Rattle.decode_block.specs.Blocks.{four_in}
use Rattle.decode_block.proofs.mark_block.Given as goal

abbrev pub invariant-loop-i : goal.invariant-loop-i
invariant-loop-i l = (l.i ≤ l.n) × (length l.wide ≡ length l.initial.wide) × (l.wide ≡ laid (upto (λ j. mark_of (four_in (four_steps l.block j))) l.i) l.initial.wide)

abbrev pub decreases-loop-i : goal.decreases-loop-i
decreases-loop-i l = l.n - l.i
