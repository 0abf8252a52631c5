-- Laws of row 5 of the scales at its place.
use Rattle.std.specs.Prelude.{◌≡◌, List, ◌++◌, length, Float}
use Rattle.std.proofs.Common.{eq-eqb, ne_eqb}
use Rattle.refusal.specs.Rows.{Length, Row, first_row}
use Rattle.refusal.proofs.RowLaws.{row_false, row_true}
use Rattle.isdbs_tables.specs.declared.Table.{Table}
use Rattle.isdbs_tables.specs.Tables.{table_rows}
use Rattle.c_answers.specs.Lengths.{until_length}
use Rattle.c_scales.specs.Scales.{with_scales}

module _ (t : Table) (scales : List Float) (rest : List Row) where
  -- seven scales: the other rows decide
  pub seven_rows : length scales ≡ 7 → first_row (with_scales t scales rest) ≡ first_row (table_rows t ++ rest)
  seven_rows h = rw (eq-eqb (length scales) 7 h) (row_false (table_rows t) rest Length)

  -- not seven: the table's rows, then 5
  pub not_seven : (length scales ≡ 7 → ⊥) → first_row (with_scales t scales rest) ≡ first_row (until_length (table_rows t))
  not_seven h = rw (ne_eqb (length scales) 7 h) (row_true (table_rows t) rest Length)
