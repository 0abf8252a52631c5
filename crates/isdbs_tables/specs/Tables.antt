-- Document 01: "a table of four entries (a word, of which the low 4 bits count, and an 8-bit slot count)".
use Rattle.isdbs_combination.specs.declared.Combination.{Combination}
use Rattle.std.specs.Prelude.{◌≡◌, Bool, false, not, ◌||◌, List, [], ◌∷◌, ℕ, ◌+◌, ◌%◌, eqb, ltb, Option, Some, None}
use Rattle.refusal.specs.Rows.{Answer, Row, first_row}
use Rattle.refusal.specs.Rows as answer
use Rattle.isdbs_combination.specs.declared.CombinationWord.{CombinationWord}
use Rattle.isdbs_combination.specs.declared.CombinationWord.TheVariants.{Assigned, Dummy, Reserved}
use Rattle.isdbs_tables.specs.declared.Entry.{Entry}
use Rattle.isdbs_tables.specs.declared.Table.{Table}
use Rattle.isdbs_combination.specs.Combinations.{combination_of, word_means, unit_of, frame_slots}

-- "`CombinationEntry::combination` means the assigned combination of the word, or none"
abbrev pub entry_combination : Entry → Option Combination
entry_combination e = combination_of (e.word % 16)

unfoldable pub slot_sum : List Entry → ℕ
slot_sum [] = 0
slot_sum (e ∷ es) = e.slots + slot_sum es

-- refusal 10: "an entry with slots that don't fill whole units"
abbrev pub unfilled : Option Combination → ℕ → Bool
unfilled (Some c) n = not (eqb (n % (unit_of c).slots) 0)
unfilled None n = false

abbrev pub part_unit : Entry → Bool
part_unit e = unfilled (entry_combination e) e.slots

-- refusal 11: "a reserved word (0 or 8 to 14) with a nonzero slot count"
abbrev pub slots_reserved : CombinationWord → ℕ → Bool
slots_reserved (Assigned c) n = false
slots_reserved Dummy n = false
slots_reserved (Reserved w) n = not (eqb n 0)

abbrev pub reserved_word : Entry → Bool
reserved_word e = slots_reserved (word_means e.word) e.slots

-- of some entry
unfoldable pub some : (Entry → Bool) → List Entry → Bool
some test [] = false
some test (e ∷ es) = test e || some test es

-- refusal 1: "slot counts sum above 48"; then 10 and 11, "in that sequence directly after 1". The rows that every call with a table begins with;
-- TableLaws has what follows from them
unfoldable pub table_rows : Table → List Row
table_rows t =
    (answer.Table, ltb frame_slots (slot_sum t.entries))
    ∷ (answer.PartUnit, some part_unit t.entries)
    ∷ (answer.ReservedWord, some reserved_word t.entries)
    ∷ []

abbrev pub table_answer : Table → Answer
table_answer t = first_row (table_rows t)

abbrev pub TableAccepted : Table → Type 0
TableAccepted t = table_answer t ≡ answer.Accepted
