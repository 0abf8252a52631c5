-- The rows of `quality`: "Rows as `isdbs_judge` (1, 10, 11, 5, 6, 7, 9)".
use Rattle.std.specs.Prelude.{not, List, [], ◌∷◌, ◌++◌, ℕ, eqb, ltb, Float}
use Rattle.refusal.specs.Rows.{Length, Space, Row}
use Rattle.isdbs_tables.specs.declared.Table.{Table}
use Rattle.isdbs_tables.specs.Tables.{table_rows}
use Rattle.isdbs_plan.specs.RunsOf.{load_bytes}
use Rattle.isdbs_rows.specs.DecodeRows.{point_rows}
use Rattle.quality_sums.specs.Terms.{quality_numbers}

-- those of what is lent: 5, of a load of `need` bytes; 6 and 7 as `decode_frame` has them; 9, for less room than the numbers take
abbrev pub lent_rows : ℕ → ℕ → List Float → List Float → ℕ → List Row
lent_rows need bytes re im room = (Length, not (eqb bytes need)) ∷ (point_rows re im ++ (Space, ltb room quality_numbers) ∷ [])

abbrev pub quality_rows : Table → ℕ → List Float → List Float → ℕ → List Row
quality_rows t bytes re im room = table_rows t ++ lent_rows (load_bytes t) bytes re im room
