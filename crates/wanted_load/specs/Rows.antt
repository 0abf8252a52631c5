-- The rows of `wanted_load`. Document 02, P9: "Refusals 1, 6 and 9 apply, also 10 and 11; 7 isn't checked here."
use Rattle.std.specs.Prelude.{Bool, ◌||◌, List, [], ◌∷◌, ◌++◌, ℕ, ltb}
use Rattle.refusal.specs.Rows.{Symbols, Space, NoLoad, Row}
use Rattle.isdbs_tables.specs.declared.Table.{Table}
use Rattle.isdbs_frame.specs.Frame.{main_symbols}
use Rattle.isdbs_tables.specs.Tables.{table_rows}
use Rattle.isdbs_plan.specs.RunsOf.{load_bytes}

-- those of the lent lengths: 6, and 9 where the load needs more bytes than are lent
abbrev pub lent_rows : ℕ → ℕ → ℕ → ℕ → List Row
lent_rows need re im bytes = (Symbols, ltb re main_symbols || ltb im main_symbols) ∷ (Space, ltb bytes need) ∷ []

-- the rows that are checked before the frame is read: 1, 10, 11, 6 and 9
abbrev pub earlier_rows : Table → ℕ → ℕ → ℕ → List Row
earlier_rows t re im bytes = table_rows t ++ lent_rows (load_bytes t) re im bytes

-- all rows, over whether no full load encodes to the frame: "13 precisely if no full load encodes to the frame, checked last"
abbrev pub wanted_rows : Table → ℕ → ℕ → ℕ → Bool → List Row
wanted_rows t re im bytes none = earlier_rows t re im bytes ++ (NoLoad, none) ∷ []
