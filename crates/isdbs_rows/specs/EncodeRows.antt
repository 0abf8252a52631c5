-- The rows of the encoding calls.
use Rattle.std.specs.Prelude.{Bool, ◌||◌, List, [], ◌∷◌, ◌++◌, ℕ, leb, ltb}
use Rattle.refusal.specs.Rows.{State, Space, Row}
use Rattle.isdbs_tables.specs.declared.Table.{Table}
use Rattle.isdbs_frame.specs.Frame.{main_symbols}
use Rattle.isdbs_tables.specs.Tables.{table_rows}
use Rattle.trellis.specs.Isdb

-- refusal 9: "a lent output .. shorter than this call writes": 38,976 points, in parts of a and b elements
abbrev pub short_parts : ℕ → ℕ → Bool
short_parts a b = ltb a main_symbols || ltb b main_symbols

-- the rows of `encode_frame`: 1 and 9
abbrev pub encode_frame_rows : Table → ℕ → ℕ → List Row
encode_frame_rows t a b = table_rows t ++ (Space, short_parts a b) ∷ []

-- the rows of `encode_frame_with_state`: 1, 4 ("encoder state above 63") and 9
abbrev pub encode_rows : Table → ℕ → ℕ → ℕ → List Row
encode_rows t s a b = table_rows t ++ (State, leb Isdb.states s) ∷ (Space, short_parts a b) ∷ []
