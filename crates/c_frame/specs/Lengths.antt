-- The rows of `isdbs_decode_frame`: those of `decode_frame` with row 5.
use Rattle.std.specs.Prelude.{List, ◌++◌, ℕ, Float}
use Rattle.refusal.specs.Rows.{Row}
use Rattle.isdbs_tables.specs.declared.Table.{Table}
use Rattle.isdbs_phy.specs.DecodeRows.{some_bad, point_rows, last_rows}
use Rattle.c_scales.specs.Scales.{with_scales}

abbrev pub scales_rows : Table → List Float → List Float → List Float → ℕ → ℕ → ℕ → ℕ → List Row
scales_rows t re im scales decisions bits bytes counts = with_scales t scales (point_rows re im ++ last_rows t (some_bad scales) decisions bits bytes counts)
