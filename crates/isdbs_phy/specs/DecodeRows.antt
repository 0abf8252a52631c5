-- The refusal rows of `decode_frame`, its answer, and what a call leaves. Document 01, "Where a call is turned back".
use Rattle.std.specs.Prelude.{◌≡◌, Bool, List, [], ◌∷◌, ℕ, Result, Ok, Err}
use Rattle.refusal.specs.Rows.{number_of, Said, says, Answer}
use Rattle.isdbs_phy.specs.declared.demod.FrameDecoded.{FrameDecoded}
use Rattle.refusal.specs.declared.Refusal.{Refusal}
use Rattle.isdbs_tables.specs.declared.Table.{Table}
use Rattle.isdbs_plan.specs.RunsOf.{frame_steps, load_bytes}
use Rattle.trellis.specs.Lists.{laid}
use Rattle.isdbs_metrics.specs.Reading.{Received}
use Rattle.decode_main.specs.Runs.{FrameRead}
use Rattle.strain_marks.specs.Strain.{strain_counts}
-- the rows, which crates/isdbs_rows defines
unfoldable pub use Rattle.isdbs_rows.specs.DecodeRows.{some_of}
pub use Rattle.isdbs_rows.specs.DecodeRows.{some_of_beyond, part_limit, scale_limit, bad_scale, some_bad, short_space, point_rows, last_rows, frame_rows, decode_rows, one_scale_rows}

-- document 01's number and values for each case of its answer
abbrev pub frame_said : Result FrameDecoded Refusal → Said
frame_said (Ok d) = (0, d.bytes ∷ d.steps ∷ d.strained ∷ [])
frame_said (Err row) = (number_of (Err row), [])

-- what it says where the rows answer a: the bytes, the steps and the sum of the strained ones
abbrev pub frame_answer : Answer → Table → ℕ → Said
frame_answer a t strained = says a (load_bytes t ∷ frame_steps t ∷ strained ∷ [])

-- "no buffer changes"
pub record Kept (decisions₀ decisions bits₀ bits bytes₀ bytes counts₀ counts : List ℕ) : Type 0 where
  pub words : decisions ≡ decisions₀
  pub decoded : bits ≡ bits₀
  pub load : bytes ≡ bytes₀
  pub strain : counts ≡ counts₀

-- what an accepted call leaves: the frame's bits and bytes, and "one count per valid slot"; counts past them are as before
pub record FrameLeft (t : Table) (r : Received) (knownStart first : Bool) (decisions₀ decisions bits₀ bits bytes₀ bytes counts₀ counts : List ℕ) : Type 0 where
  pub read : FrameRead t r knownStart first decisions₀ decisions bits₀ bits bytes₀ bytes
  pub strain : counts ≡ laid (strain_counts t r knownStart first) counts₀
