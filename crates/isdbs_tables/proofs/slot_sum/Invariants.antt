-- `slot_sum` meets its contract: the sum so far and that of the entries left make the whole.
use Prim.Native.Nat.{◌+◌, ◌*◌, ◌-◌, ◌≤◌}
use Rattle.isdbs_tables.specs.Tables.{slot_sum}
use lib.ListN.{drop}
use mathlib.Core.Path.{◌≡◌}
use Rattle.isdbs_tables.proofs.slot_sum.Given as goal

abbrev pub invariant-loop-i : goal.invariant-loop-i
invariant-loop-i l = (l.i ≤ 4) × (l.sum ≤ 255 * l.i) × (l.sum + slot_sum (drop l.i l.t.entries) ≡ slot_sum l.t.entries)

abbrev pub decreases-loop-i : goal.decreases-loop-i
decreases-loop-i l = 4 - l.i
