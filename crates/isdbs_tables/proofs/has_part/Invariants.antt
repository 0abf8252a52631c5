-- `has_part` meets its contract: the entries passed are whole units.
use Prim.Native.Nat.{◌-◌, ◌≤◌}
use Rattle.isdbs_tables.specs.Tables.{part_unit, some}
use lib.ListN.{drop}
use mathlib.Core.Path.{◌≡◌}
use Rattle.isdbs_tables.proofs.has_part.Given as goal

abbrev pub invariant-loop-i : goal.invariant-loop-i
invariant-loop-i l = (l.i ≤ 4) × (some part_unit (drop l.i l.t.entries) ≡ some part_unit l.t.entries)

abbrev pub decreases-loop-i : goal.decreases-loop-i
decreases-loop-i l = 4 - l.i
