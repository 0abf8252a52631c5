-- What reading the runs of a frame leaves.
use Rattle.std.specs.Prelude.{◌≡◌, List, ℕ, ◌+◌, ◌<◌, Float}
use Rattle.trellis.specs.Isdb.{frame_traceback, frame_words}
use Rattle.trellis.specs.Run.{fresh_from}
use Rattle.viterbi_core.specs.declared.At.{At}
use Rattle.viterbi_core.specs.Calls.{steps, Holds}
use Rattle.isdbs_tables.specs.declared.Table.{Table}
use Rattle.isdbs_plan.specs.RunsOf.{frame_steps}
use Rattle.isdbs_metrics.specs.Reading.{Received}
use Rattle.isdbs_metrics.specs.FrameSteps.{frame_metrics}

-- all runs of a frame
pub record RunsRead (t : Table) (rx : Received) (pm : List Float) (dec out : List ℕ) (r : At) (pm' : List Float) (dec' out' : List ℕ) : Type 0 where
  pub few : r.held < frame_words
  pub sum : r.held + r.count ≡ frame_steps t
  pub holds : Holds frame_traceback dec out (steps frame_traceback (frame_metrics t rx) (fresh_from pm) (frame_steps t)) pm' r.held r.count dec' out'
