-- What steps of a frame need, and what they leave: the decoder goes on.
use Rattle.std.specs.Prelude.{◌≡◌, List, ℕ, ◌+◌, ◌^◌, ◌<◌, ◌≤◌, Float}
use Rattle.trellis.specs.Step.{Step}
use Rattle.trellis.specs.Run.{Decoder}
use Rattle.viterbi_core.specs.declared.At.{At}
use Rattle.viterbi_core.specs.Calls.{steps, Holds}
use Rattle.trellis.specs.Isdb.{frame_traceback, frame_words}
use Rattle.isdbs_combination.specs.declared.Combination.{Combination}
use Rattle.isdbs_metrics.specs.Steps.{Covers}
use Rattle.decode_block.specs.Blocks.{Periods}

-- n steps of a run, whole periods, the first of which is step i0 of the frame: the points, words, bits and marks are enough for them
pub record RunFits (c : Combination) (i0 n : ℕ) (at : At) (re im words bits marks : ℕ) : Type 0 where
  pub whole : Periods c n
  pub few : at.held < frame_words
  pub held : frame_words ≤ words
  pub room : at.held + at.count + n ≤ bits
  pub kept : n ≤ marks
  pub under : i0 + n < 2 ^ 30
  pub real : Covers c n re
  pub imaginary : Covers c n im

-- n steps ys of a call, the first of which is its step i0. Whatever the call's other steps are: the decoder that the values and slices held goes
-- n steps on.
pub record Carried (ys : ℕ → Step) (i0 n : ℕ) (pm : List Float) (at : At) (dec out : List ℕ) (r : At) (pm' : List Float) (dec' out' : List ℕ) : Type 0 where
  pub few : r.held < frame_words
  pub sum : r.held + r.count ≡ at.held + at.count + n
  pub carries : (xs : ℕ → Step) (d : Decoder) (dec₀ out₀ : List ℕ) → ((k : ℕ) → k < n → xs (i0 + k) ≡ ys k)
      → Holds frame_traceback dec₀ out₀ (steps frame_traceback xs d i0) pm at.held at.count dec out
      → Holds frame_traceback dec₀ out₀ (steps frame_traceback xs d (i0 + n)) pm' r.held r.count dec' out'
