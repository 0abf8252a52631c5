-- `isdbs_slot_combinations` meets its contract: the words of the first s slots are at the front.
use Prim.Native.Nat.{ℕ, ◌-◌, ◌≤◌}
use mathlib.Core.Path.{◌≡◌}
use lib.ListN.{length}
use Rattle.trellis.specs.Lists.{laid, upto}
use Rattle.isdbs_marks.specs.Marks.{mark_at}
use Rattle.c_table.specs.Forms.{table_of, mark_word}
use Rattle.c_table.proofs.isdbs_slot_combinations.Given as goal

-- the word of slot s
abbrev pub marked : ℕ → ℕ → ℕ
marked table s = mark_word (mark_at (table_of table).entries s)

abbrev pub invariant-loop-s : goal.invariant-loop-s
invariant-loop-s l = (l.s ≤ 48) × (l.out ≡ laid (upto (marked l.table) l.s) l.initial.out) × (length l.out ≡ length l.initial.out) × (48 ≤ length l.initial.out)

abbrev pub decreases-loop-s : goal.decreases-loop-s
decreases-loop-s l = 48 - l.s
