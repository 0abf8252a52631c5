-- `register_table` meets its contract.
use mathlib.Core.Path.{◌≡◌}
use Prim.Native.Nat.{◌-◌, ◌≤◌}
use lib.Ieee.{nan}
use lib.ListN.{length, get_or}
use Rattle.encode_run.specs.Encoded.{register_label}
use Rattle.trellis.specs.WrittenLaws.{Written}
use Rattle.encode_run.proofs.register_table.Given as goal

abbrev pub invariant-loop-w : goal.invariant-loop-w
invariant-loop-w l =
    (l.w ≤ 256)
    × (length l.re ≡ 256)
    × (length l.im ≡ 256)
    × Written nan (λ i. get_or l.xs (register_label i) nan) l.w l.re
    × Written nan (λ i. get_or l.ys (register_label i) nan) l.w l.im

abbrev pub decreases-loop-w : goal.decreases-loop-w
decreases-loop-w l = 256 - l.w
