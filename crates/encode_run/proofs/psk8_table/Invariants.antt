-- `psk8_table` meets its contract.
use mathlib.Core.Path.{◌≡◌}
use Prim.Native.Nat.{◌-◌, ◌≤◌}
use lib.Ieee.{nan}
use lib.ListN.{length}
use Rattle.encode_run.specs.Encoded.{psk8_label}
use Rattle.trellis.specs.WrittenLaws.{Written}
use Rattle.encode_run.proofs.psk8_table.Given as goal

abbrev pub invariant-loop-l : goal.invariant-loop-l
invariant-loop-l l =
    (l.l ≤ 8) × (length l.re ≡ 8) × (length l.im ≡ 8) × Written nan (λ i. (psk8_label l.m i).re) l.l l.re × Written nan (λ i. (psk8_label l.m i).im) l.l l.im

abbrev pub decreases-loop-l : goal.decreases-loop-l
decreases-loop-l l = 8 - l.l
