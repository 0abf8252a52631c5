-- The refusal rows of the C calls that have rows of their own, in document 01's order, and what their slices hold.
use Rattle.isdbs_combination.specs.declared.Combination.{Combination}
use Rattle.std.specs.Prelude.{Bool, true, false, List, [], ◌∷◌, ◌++◌, ℕ, ◌*◌, ltb, length, Option, Some, None}
use Rattle.refusal.specs.Rows.{Position, Space, Row}
use Rattle.trellis.specs.Lists.{upto}
use Rattle.isdbs_tables.specs.declared.Table.{Table}
use Rattle.isdbs_combination.specs.Combinations.{combination_of, frame_slots}
use Rattle.isdbs_tables.specs.Tables.{table_rows}
use Rattle.isdbs_marks.specs.Marks.{mark_at}
use Rattle.isdbs_plan.specs.RunsOf.{runs_of}
use Rattle.isdbs_core.specs.Symbols.{bit_rows, symbol_of_bit}
use Rattle.c_table.specs.Forms.{mark_word, run_number}

-- the table's rows, then 9: fewer places than the call writes
abbrev pub places_rows : Table → ℕ → ℕ → List Row
places_rows t need space = table_rows t ++ (Space, ltb space need) ∷ []

-- the words of the 48 slots
abbrev pub slot_words : Table → List ℕ
slot_words t = upto (λ s. mark_word (mark_at t.entries s)) frame_slots

-- the numbers of the runs
abbrev pub all_numbers : Table → List ℕ
all_numbers t = upto (run_number (runs_of t)) (6 * length (runs_of t))

abbrev pub is_none : Option Combination → Bool
is_none (Some c) = false
is_none None = true

-- a word outside 1 to 7 answers 2, as a bit above 1,000,000 does
abbrev pub bit_symbol_rows : ℕ → ℕ → List Row
bit_symbol_rows word bit = (Position, is_none (combination_of word)) ∷ bit_rows bit

abbrev pub symbol_or_zero : Option Combination → ℕ → ℕ
symbol_or_zero (Some c) bit = symbol_of_bit c bit
symbol_or_zero None bit = 0
