-- Demand 3 of one call of `decode_frame`.
use Rattle.std.specs.Prelude.{◌≡◌, Bool, List, [], ◌∷◌, ℕ, T, take, replicate, Float, Result}
use Rattle.refusal.specs.declared.Refusal.{Refusal}
use Rattle.refusal.specs.Rows.{Space, number_of}
use Rattle.isdbs_tables.specs.declared.Table.{Table}
use Rattle.isdbs_tables.specs.Tables.{TableAccepted}
use Rattle.isdbs_plan.specs.RunsOf.{valid_total, frame_steps, load_bytes}
use Rattle.isdbs_points.specs.declared.Mapping.{Mapping}
use Rattle.isdbs_phy.specs.declared.demod.FrameDecoded.{FrameDecoded}
use Rattle.isdbs_phy.specs.DecodeRows.{short_space, frame_said}
use Rattle.isdbs_points.specs.Layout.{FullLoad}
use Rattle.margin_ends.specs.Ends.{eight}
use Rattle.margins.specs.Margins.{Within}

-- "demand 3's scale 8 means all seven at 8"
abbrev pub eights : List Float
eights = replicate 7 eight

-- what comes back: the load at the front of the byte output, and a zero count for each valid slot; or 9 where a lent slice is too short; nothing else
pub data ReadsBack (t : Table) (load : List ℕ) (decisions bits space slots : ℕ) (r : Result FrameDecoded Refusal) (bytes counts : List ℕ) : Type 0 where
  exactly : frame_said r ≡ (0, load_bytes t ∷ frame_steps t ∷ 0 ∷ []) → take (load_bytes t) bytes ≡ load → take (valid_total t) counts ≡ replicate (valid_total t) 0 → ReadsBack t load decisions bits space slots r bytes counts
  short : frame_said r ≡ (number_of Space, []) → T (short_space t decisions bits space slots) → ReadsBack t load decisions bits space slots r bytes counts

-- demand 3 of one call: whatever full load the received frame lies within the margins of, it reads back
abbrev pub Exact : Table → Mapping → Bool → List Float → List Float → ℕ → ℕ → ℕ → ℕ → Result FrameDecoded Refusal → List ℕ → List ℕ → Type 0
Exact t m first re im decisions bits space slots r bytes counts =
    (load : List ℕ) → TableAccepted t → FullLoad load (load_bytes t) → Within re im load t m first → ReadsBack t load decisions bits space slots r bytes counts
