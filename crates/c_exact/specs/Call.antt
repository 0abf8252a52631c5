-- Demand 3 of one C call, `isdbs_encode_frame` or `isdbs_decode_frame`.
use Rattle.std.specs.Prelude.{◌≡◌, Bool, List, ℕ, ◌<◌, ◌≤◌, T, length, get_or, take, replicate, Float}
use Rattle.std.specs.Float.{nan}
use Rattle.isdbs_tables.specs.declared.Table as tmcc
use Rattle.isdbs_tables.specs.Tables.{TableAccepted}
use Rattle.isdbs_plan.specs.RunsOf.{valid_total, load_bytes}
use Rattle.isdbs_points.specs.declared.Mapping.{Mapping}
use Rattle.isdbs_points.specs.Frame.{start_state}
use Rattle.isdbs_phy.specs.DecodeRows.{short_space}
use Rattle.isdbs_points.specs.Layout.{FullLoad}
use Rattle.margins.specs.Margins.{free_re, free_im, holds, Within}
use Rattle.isdbs_frame.specs.Frame.{main_symbols}

-- received parts that keep the margins of the parts that were laid, "whatever is lent past them"
pub record WithinLaid (t : tmcc.Table) (laidRe laidIm re im : List Float) : Type 0 where
  pub re_count : main_symbols ≤ length re
  pub im_count : main_symbols ≤ length im
  pub re_parts : (k : ℕ) → k < main_symbols → T (holds (free_re t k) (get_or laidRe k nan) (get_or re k nan))
  pub im_parts : (k : ℕ) → k < main_symbols → T (holds (free_im t k) (get_or laidIm k nan) (get_or im k nan))

-- the frame that an accepted call lays from the start state for `first` lies within the margins of its load, and so does every frame received within its margins
pub record Lays (answer : ℕ) (t : tmcc.Table) (m : Mapping) (load : List ℕ) (state : ℕ) (laidRe laidIm : List Float) : Type 0 where
  pub own : answer ≡ 0 → (first : Bool) → state ≡ start_state first → Within laidRe laidIm load t m first
  pub received : answer ≡ 0 → (first : Bool) → state ≡ start_state first → (re im : List Float) → WithinLaid t laidRe laidIm re im → Within re im load t m first

-- what comes back: 0, the load at the front of the byte output, a zero count for each valid slot and the sum 0; or 9 where a lent slice is too short; nothing else
pub data ReadsBackC (t : tmcc.Table) (load : List ℕ) (decisions bits space slots : ℕ) (answer : ℕ) (bytes counts : List ℕ) (sum : ℕ) : Type 0 where
  exactly_c : answer ≡ 0 → take (load_bytes t) bytes ≡ load → take (valid_total t) counts ≡ replicate (valid_total t) 0 → sum ≡ 0 → ReadsBackC t load decisions bits space slots answer bytes counts sum
  short_c : answer ≡ 9 → T (short_space t decisions bits space slots) → ReadsBackC t load decisions bits space slots answer bytes counts sum

-- demand 3 of one call: whatever full load the received frame lies within the margins of, it reads back
abbrev pub ExactC : tmcc.Table → Mapping → Bool → List Float → List Float → ℕ → ℕ → ℕ → ℕ → ℕ → List ℕ → List ℕ → ℕ → Type 0
ExactC t m first re im decisions bits space slots answer bytes counts sum =
    (load : List ℕ) → TableAccepted t → FullLoad load (load_bytes t) → Within re im load t m first → ReadsBackC t load decisions bits space slots answer bytes counts sum
