-- Row 5 of scales that are not seven.
use Rattle.std.specs.Prelude.{not, List, ◌∷◌, ◌++◌, eqb, length, Float}
use Rattle.refusal.specs.Rows.{Length, Row}
use Rattle.isdbs_tables.specs.declared.Table.{Table}
use Rattle.isdbs_tables.specs.Tables.{table_rows}

-- 5: scales that are not seven, directly below the table's rows
abbrev pub with_scales : Table → List Float → List Row → List Row
with_scales t scales rest = table_rows t ++ (Length, not (eqb (length scales) 7)) ∷ rest
