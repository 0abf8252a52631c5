-- `mark_at` meets its contract: the slot is at place k of the entries left.
use Prim.Native.Nat.{◌-◌, ◌≤◌}
use Rattle.isdbs_marks.specs.Marks.{mark_at}
use lib.ListN.{drop}
use mathlib.Core.Path.{◌≡◌}
use Rattle.isdbs_marks.proofs.mark_at.Given as goal

abbrev pub invariant-loop-i : goal.invariant-loop-i
invariant-loop-i l = (l.i ≤ 4) × (mark_at (drop l.i l.t.entries) l.k ≡ mark_at l.t.entries l.s)

abbrev pub decreases-loop-i : goal.decreases-loop-i
decreases-loop-i l = 4 - l.i
