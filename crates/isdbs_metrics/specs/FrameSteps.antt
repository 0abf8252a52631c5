-- A frame's metrics as the steps of a decoder.
use Rattle.std.specs.Prelude.{ℕ}
use Rattle.trellis.specs.Step.{Step, four}
use Rattle.isdbs_tables.specs.declared.Table.{Table}
use Rattle.isdbs_metrics.specs.Reading.{Received, metrics_at}

-- the steps of a frame
abbrev pub frame_metrics : Table → Received → ℕ → Step
frame_metrics t r k = four (metrics_at t r k)
