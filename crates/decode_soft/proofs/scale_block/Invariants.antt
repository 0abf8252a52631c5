-- `scale_block` meets its contract. The invariant: the first i values are multiplied, the others as they were.
use mathlib.Core.Path.{◌≡◌}
use Prim.Native.Nat.{◌-◌, ◌≤◌}
use lib.ListN.{get_or}
use lib.Ieee.{nan, binary32, mul}
use Rattle.trellis.specs.Lists.{upto, laid}
use Rattle.decode_soft.proofs.scale_block.Given as goal

abbrev pub invariant-loop-i : goal.invariant-loop-i
invariant-loop-i l = (l.i ≤ l.n) × (l.out ≡ laid (upto (λ k. mul binary32 (get_or l.initial.out k nan) l.scale) l.i) l.initial.out)

abbrev pub decreases-loop-i : goal.decreases-loop-i
decreases-loop-i l = l.n - l.i
