-- The marks of a table's slots.
use Rattle.std.specs.Prelude.{Bool, cond, List, [], ◌∷◌, ℕ, ◌-◌, ◌%◌, ltb, Option, Some, None, Result}
use Rattle.refusal.specs.declared.Refusal.{Refusal}
use Rattle.refusal.specs.Rows.{answered}
use Rattle.isdbs_combination.specs.declared.Combination.{Combination}
use Rattle.isdbs_tables.specs.declared.Entry.{Entry}
use Rattle.isdbs_tables.specs.declared.Table.{Table}
use Rattle.isdbs_tables.specs.Tables.{entry_combination, table_answer}
use Rattle.isdbs_marks.specs.declared.SlotMark.{SlotMark}
use Rattle.trellis.specs.Lists.{upto}
use Rattle.isdbs_combination.specs.Combinations.{unit_of, frame_slots}

-- "`slot_combinations` goes by a slot's place in its unit": the place k in an entry is marked
abbrev pub marked : Combination → ℕ → Bool
marked c k = ltb (k % (unit_of c).slots) (unit_of c).valid

abbrev pub mark_in : Option Combination → ℕ → Option Combination
mark_in (Some c) k = cond (marked c k) (Some c) None
mark_in None k = None

-- the mark of slot s: entries take their slots one after the other, and past them no slot is marked
unfoldable pub mark_at : List Entry → ℕ → Option Combination
mark_at [] s = None
mark_at (e ∷ es) s = cond (ltb s e.slots) (mark_in (entry_combination e) s) (mark_at es (s - e.slots))

abbrev pub mark : Option Combination → SlotMark
mark m = record { mark = m }

-- the marks of the 48 slots
abbrev pub marks_of : Table → List SlotMark
marks_of t = upto (λ s. mark (mark_at t.entries s)) frame_slots

-- what `slot_combinations` gives: the row that turns the table back, or the marks
abbrev pub slot_marks : Table → Result (List SlotMark) Refusal
slot_marks t = answered (table_answer t) (marks_of t)
