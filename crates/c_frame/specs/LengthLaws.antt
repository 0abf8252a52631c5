-- Laws of row 5 of the scales at its place.
use Rattle.std.specs.Prelude.{◌≡◌, List, ◌++◌, ℕ, length, Float}
use Rattle.refusal.specs.Rows.{Row, first_row}
use Rattle.isdbs_tables.specs.declared.Table.{Table}
use Rattle.isdbs_tables.specs.Tables.{table_rows}
use Rattle.isdbs_phy.specs.DecodeRows.{some_bad, point_rows, last_rows, decode_rows}
use Rattle.c_answers.specs.Lengths.{until_length}
use Rattle.c_scales.specs.ScaleLaws as scales-c
use Rattle.c_frame.specs.Lengths.{scales_rows}

module _ (t : Table) (re im scales : List Float) (decisions bits bytes counts : ℕ) where
  abbrev rest : List Row
  rest = point_rows re im ++ last_rows t (some_bad scales) decisions bits bytes counts

  pub seven_rows : length scales ≡ 7 → first_row (scales_rows t re im scales decisions bits bytes counts) ≡ first_row (decode_rows t re im scales decisions bits bytes counts)
  seven_rows h = scales-c.seven_rows t scales rest h

  pub not_seven : (length scales ≡ 7 → ⊥) → first_row (scales_rows t re im scales decisions bits bytes counts) ≡ first_row (until_length (table_rows t))
  not_seven h = scales-c.not_seven t scales rest h
