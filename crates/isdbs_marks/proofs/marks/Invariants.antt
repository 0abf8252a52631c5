-- `marks` meets its contract: the slots below s are marked.
use Prim.Native.Nat.{ℕ, ◌-◌, ◌≤◌}
use Rattle.trellis.specs.WrittenLaws.{Written}
use Rattle.isdbs_marks.specs.Marks.{mark_at, mark}
use Rattle.std.specs.Prelude.{None}
use Rattle.isdbs_marks.specs.declared.SlotMark.{SlotMark}
use Rattle.isdbs_tables.specs.declared.Table.{Table}
use lib.ListN.{length}
use mathlib.Core.Path.{◌≡◌}
use Rattle.isdbs_marks.proofs.marks.Given as goal

-- what belongs at slot s
abbrev pub marks : Table → ℕ → SlotMark
marks t s = mark (mark_at t.entries s)

abbrev pub invariant-loop-s : goal.invariant-loop-s
invariant-loop-s l = (l.s ≤ 48) × (length l.slots ≡ 48) × Written (mark None) (marks l.t) l.s l.slots

abbrev pub decreases-loop-s : goal.decreases-loop-s
decreases-loop-s l = 48 - l.s
