-- What decoding a frame leaves.
use Rattle.std.specs.Prelude.{◌≡◌, Bool, List, ℕ, replicate, Float}
use Rattle.trellis.specs.Isdb.{frame_traceback, frame_words}
use Rattle.trellis.specs.Lists.{laid}
use Rattle.trellis.specs.Run.{fresh_from}
use Rattle.viterbi_core.specs.Calls.{steps}
use Rattle.isdbs_tables.specs.declared.Table.{Table}
use Rattle.isdbs_plan.specs.RunsOf.{frame_steps}
use Rattle.isdbs_metrics.specs.Reading.{Received, decoded_bits, decoded_bytes}
use Rattle.decode_end.specs.End.{ended_bits}
use Rattle.isdbs_metrics.specs.FrameSteps.{frame_metrics}

-- the bits of a frame whose path values start as pm
abbrev pub bits_from : Table → Received → List Float → List ℕ
bits_from t r pm = ended_bits (steps frame_traceback (frame_metrics t r) (fresh_from pm) (frame_steps t))

-- "Afterwards the bit buffer begins with steps + 16 decoded bits, one per byte; the first 4,224 decision words are 0; the byte output begins with
-- 203 bytes per valid slot; all else is unchanged."
pub record FrameRead (t : Table) (r : Received) (knownStart first : Bool) (decisions₀ decisions bits₀ bits bytes₀ bytes : List ℕ) : Type 0 where
  pub words : decisions ≡ laid (replicate frame_words 0) decisions₀
  pub decoded : bits ≡ laid (decoded_bits t r knownStart first) bits₀
  pub load : bytes ≡ laid (decoded_bytes t r knownStart first) bytes₀
