-- `near_magnitudes` meets its contract. The invariant: the first i places are filled.
use mathlib.Core.Path.{◌≡◌}
use Prim.Native.Nat.{◌-◌, ◌≤◌}
use lib.ListN.{get_or}
use lib.Ieee.{nan}
use Rattle.trellis.specs.Lists.{upto, laid}
use Rattle.ieee_cast.specs.Soft.{soft_of}
use Rattle.isdbs_metrics.specs.Reading.{absolute}
use Rattle.decode_soft.proofs.near_magnitudes.Given as goal

abbrev pub invariant-loop-i : goal.invariant-loop-i
invariant-loop-i l = (l.i ≤ l.n) × (l.out ≡ laid (upto (λ k. soft_of (absolute (get_or l.xs k nan))) l.i) l.initial.out)

abbrev pub decreases-loop-i : goal.decreases-loop-i
decreases-loop-i l = l.n - l.i
