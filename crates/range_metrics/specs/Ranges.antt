-- What an accepted `decode_frame` keeps to: the ranges of its soft values, of its metrics and of its path values at every step, under either tie-break.
--
use Rattle.std.specs.Prelude.{◌≡◌, Bool, List, ℕ, ◌<◌, ◌≤◌, T, get_or, Float}
use Rattle.std.specs.Float.{nan, binary32}
use Rattle.std.specs.Float.Ieee.{le, of_bits}
use Rattle.refusal.specs.Rows.{first_row, Accepted}
use Rattle.trellis.specs.Isdb.{rule, frame_traceback}
use Rattle.trellis.specs.Step.{Tie, nexts}
use Rattle.trellis.specs.Run.{Decoder, after, pushed, fresh_from}
use Rattle.isdbs_combination.specs.declared.Modulation.TheVariants.{Tc8psk}
use Rattle.isdbs_tables.specs.declared.Table.{Table}
use Rattle.isdbs_combination.specs.Combinations.{modulation_of}
use Rattle.isdbs_plan.specs.RunsOf.{frame_steps}
use Rattle.isdbs_points.specs.declared.Mapping.{Mapping}
use Rattle.isdbs_rows.specs.DecodeRows.{decode_rows}
use Rattle.ieee.specs.Within.{within}
use Rattle.isdbs_points.specs.Layout.{Segment, segments, In}
use Rattle.isdbs_metrics.specs.Reading.{Received, soft_at, metrics_at, start_values, known_bits}
use Rattle.isdbs_metrics.specs.FrameSteps.{frame_metrics}
use Rattle.isdbs_metrics.specs.Scales.{received_by}
use Rattle.range_metrics.specs.Limits.{soft_limit, metric_limit, least_path, most_path}
use Rattle.trellis.specs.Isdb

-- each soft value of BPSK and QPSK, times its scale
abbrev pub soft_range : Table → Received → Type 0
soft_range t r = (g : Segment) → In g (segments t) → (modulation_of g.combination ≡ Tc8psk → ⊥) → (k b : ℕ) → k < g.steps → T (within soft_limit (soft_at r g k b))

-- each branch metric, of all modulations
abbrev pub metric_range : Table → Received → Type 0
metric_range t r = (k l : ℕ) → k < frame_steps t → l < 4 → T (within metric_limit (get_or (metrics_at t r k) l nan))

-- all 64 path values
abbrev pub Between : Float → Float → List Float → Type 0
Between a b pm = (s : ℕ) → s < Isdb.states → T (le a (get_or pm s nan)) × T (le (get_or pm s nan) b)

-- the decoder after i of the frame's steps, and after j known bits that follow the whole frame
abbrev pub frame_at : Tie → Table → Received → List Float → ℕ → Decoder
frame_at e t r pm i = after Isdb.half Isdb.labels e frame_traceback (frame_metrics t r) (fresh_from pm) i

abbrev pub known_at : Tie → Table → Received → List Float → ℕ → Decoder
known_at e t r pm j = after Isdb.half Isdb.labels e frame_traceback known_bits (pushed Isdb.half Isdb.labels e frame_traceback (frame_metrics t r) (fresh_from pm) (frame_steps t)) j

-- the path values at every step: before the maximum is subtracted, after it, and through the known bits
pub record path_range (e : Tie) (t : Table) (r : Received) (pm : List Float) : Type 0 where
  pub at_step : (i : ℕ) → i ≤ frame_steps t → Between least_path most_path (frame_at e t r pm i).values
  pub in_step : (i : ℕ) → i < frame_steps t → Between least_path most_path (nexts Isdb.half Isdb.labels e (frame_at e t r pm i).values (frame_metrics t r i))
  pub at_known : (j : ℕ) → Between least_path (of_bits binary32 0) (known_at e t r pm j).values

pub record Ranges (e : Tie) (t : Table) (r : Received) (pm : List Float) : Type 0 where
  pub soft : soft_range t r
  pub metrics : metric_range t r
  pub paths : path_range e t r pm

-- what a call promises where it is accepted
abbrev pub Promised : Table → List Float → List Float → Mapping → List Float → Bool → Bool → ℕ → ℕ → ℕ → ℕ → Type 0
Promised t re im m scales knownStart first decisions bits bytes counts =
    Accepted ≡ first_row (decode_rows t re im scales decisions bits bytes counts) → Ranges rule t (received_by re im m scales) (start_values knownStart first)
