-- `isdbt_steps::sent_as` meets its contract.
use mathlib.Core.Path.{◌≡◌}
use Prim.Native.Nat.{◌-◌, ◌≤◌}
use lib.ListN.{take, drop}
use Rattle.isdbt_steps.specs.Soft.{found_from, sent_as}
use Rattle.isdbt_steps.proofs.sent_as.Given as goal

abbrev pub invariant-loop-i : goal.invariant-loop-i
invariant-loop-i l = (l.i ≤ l.n) × (sent_as l.n l.order l.place ≡ found_from (drop l.i (take l.n l.order)) l.i l.place)

abbrev pub decreases-loop-i : goal.decreases-loop-i
decreases-loop-i l = l.n - l.i
