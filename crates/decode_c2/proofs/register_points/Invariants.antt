-- `register_points` meets its contract.
use mathlib.Core.Path.{◌≡◌}
use Prim.Native.Nat.{◌-◌, ◌≤◌}
use lib.Ieee.{nan}
use lib.ListN.{length}
use Rattle.trellis.specs.WrittenLaws.{Written}
use Rattle.decode_c2.specs.Registers.{register_point}
use Rattle.decode_c2.proofs.register_points.Given as goal

abbrev pub invariant-loop-k : goal.invariant-loop-k
invariant-loop-k l =
    (l.k ≤ 128)
    × (length l.re ≡ 128)
    × (length l.im ≡ 128)
    × Written nan (λ i. (register_point l.c1_is_y i).re) l.k l.re
    × Written nan (λ i. (register_point l.c1_is_y i).im) l.k l.im

abbrev pub decreases-loop-k : goal.decreases-loop-k
decreases-loop-k l = 128 - l.k
