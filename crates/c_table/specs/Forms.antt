-- How a C call's numbers stand for the library's values.
use Rattle.isdbs_combination.specs.declared.Combination.{Combination}
use Rattle.std.specs.Prelude.{List, [], ◌∷◌, ℕ, ◌/◌, ◌%◌, ◌^◌, get_or, Option, Some, None}
use Rattle.isdbs_tables.specs.declared.Entry.{Entry}
use Rattle.isdbs_tables.specs.declared.Table.{Table}
use Rattle.isdbs_plan.specs.declared.Run.{Run}
use Rattle.isdbs_combination.specs.Combinations.{word_of}
use Rattle.isdbs_plan.specs.RunsOf.{no_run}

-- the word in the low byte, the slot count in the next
abbrev pub entry_of : ℕ → Entry
entry_of n = record { word = n % 256; slots = n / 256 % 256 }

-- "A table is one u64: entry i has its word in bits 16i to 16i+7 and its slot count in bits 16i+8 to 16i+15"
abbrev pub table_of : ℕ → Table
table_of n = record { entries = entry_of n ∷ entry_of (n / 2 ^ 16) ∷ entry_of (n / 2 ^ 32) ∷ entry_of (n / 2 ^ 48) ∷ [] }

-- the word of a slot's combination, "0 for none"
abbrev pub mark_word : Option Combination → ℕ
mark_word (Some c) = word_of c
mark_word None = 0

-- "per run: word, slot start, slot end, valid slots, symbol start, symbol end"
abbrev pub run_numbers : Run → List ℕ
run_numbers r =
    word_of r.combination ∷ r.slot_start ∷ r.slot_end ∷ r.valid_slots ∷ r.symbol_start ∷ r.symbol_end ∷ []

-- number i of the runs, six for each
abbrev pub run_number : List Run → ℕ → ℕ
run_number rs i = get_or (run_numbers (get_or rs (i / 6) no_run)) (i % 6) 0
