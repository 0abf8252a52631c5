-- `has_reserved` meets its contract: the entries passed give no slots to a reserved word.
use Prim.Native.Nat.{◌-◌, ◌≤◌}
use Rattle.isdbs_tables.specs.Tables.{reserved_word, some}
use lib.ListN.{drop}
use mathlib.Core.Path.{◌≡◌}
use Rattle.isdbs_tables.proofs.has_reserved.Given as goal

abbrev pub invariant-loop-i : goal.invariant-loop-i
invariant-loop-i l = (l.i ≤ 4) × (some reserved_word (drop l.i l.t.entries) ≡ some reserved_word l.t.entries)

abbrev pub decreases-loop-i : goal.decreases-loop-i
decreases-loop-i l = 4 - l.i
