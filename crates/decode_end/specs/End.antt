-- What closing a frame leaves.
use Rattle.std.specs.Prelude.{◌≡◌, List, ℕ, ◌≤◌, length, replicate, Float}
use Rattle.trellis.specs.Isdb.{closed, frame_traceback, frame_words}
use Rattle.trellis.specs.Lists.{laid}
use Rattle.trellis.specs.Run.{Decoder}
use Rattle.viterbi_core.specs.declared.At.{At}
use Rattle.viterbi_core.specs.Calls.{steps, flush, Holds}
use Rattle.isdbs_metrics.specs.Reading.{known_bits}

-- "then the 16 bits of W1, high bit first, as known bits; then a flush": the bits of a decoder d whose frame steps are done
abbrev pub ended_bits : Decoder → List ℕ
ended_bits d = (flush (steps frame_traceback known_bits (closed d) 16)).bits

pub record Ended (pm : List Float) (at : At) (dec out dec' out' : List ℕ) : Type 0 where
  pub ends : (d : Decoder) (dec₀ out₀ : List ℕ) → frame_words ≤ length dec₀ → Holds frame_traceback dec₀ out₀ d pm at.held at.count dec out
      → (out' ≡ laid (ended_bits d) out₀) × (dec' ≡ laid (replicate frame_words 0) dec₀)
