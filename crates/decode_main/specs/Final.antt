-- A frame counted by the marks of its steps and by its final bits.
use Rattle.std.specs.Prelude.{◌≡◌, Bool, List, ℕ, ◌<◌, get_or}
use Rattle.trellis.specs.Lists.{upto, laid}
use Rattle.trellis.specs.Isdb.{frame_traceback}
use Rattle.trellis.specs.Run.{fresh_from}
use Rattle.viterbi_core.specs.Calls.{steps, call, flush}
use Rattle.isdbs_tables.specs.declared.Table.{Table}
use Rattle.isdbs_plan.specs.RunsOf.{frame_steps, valid_total}
use Rattle.isdbs_points.specs.Frame.{start_state}
use Rattle.isdbs_metrics.specs.Reading.{Received, start_values, known_bits}
use Rattle.isdbs_metrics.specs.FrameSteps.{frame_metrics}
use Rattle.strain_marks.specs.Counts.{summed}
use Rattle.strain_marks.specs.Marks.{frame_mark}
use Rattle.decode_strain.specs.Pieces.{frame_strain}

-- the bits by which a frame's strain is counted: not the survivors when its own steps are done, but the final bits, traced when the 16 known bits have followed
abbrev pub final_bits : Table → Received → Bool → Bool → List ℕ
final_bits t r knownStart first = (flush (steps frame_traceback known_bits (call frame_traceback (frame_metrics t r) (fresh_from (start_values knownStart first)) (frame_steps t)) 16)).bits

-- a frame is counted by the marks ms of its steps and by its final bits
pub record FrameCounted (t : Table) (r : Received) (knownStart first : Bool) (ms counts₀ counts : List ℕ) (sum : ℕ) : Type 0 where
  pub marks_are : (k : ℕ) → k < frame_steps t → get_or ms k 0 ≡ frame_mark t r k
  pub counts_are : counts ≡ laid (upto (frame_strain t ms (start_state first) (final_bits t r knownStart first)) (valid_total t)) counts₀
  pub sum_is : sum ≡ summed (frame_strain t ms (start_state first) (final_bits t r knownStart first)) (valid_total t)
