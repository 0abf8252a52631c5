-- The loads that a frame of points is made of. Definitions only.
use Rattle.std.specs.Prelude.{◌≡◌, Bool, List, ℕ, take, Float}
use Rattle.isdbs_tables.specs.declared.Table.{Table}
use Rattle.isdbs_frame.specs.Frame.{main_symbols}
use Rattle.isdbs_plan.specs.RunsOf.{load_bytes}
use Rattle.isdbs_points.specs.declared.Mapping.{Mapping}
use Rattle.isdbs_points.specs.Layout.{FullLoad}
use Rattle.isdbs_points.specs.Frame.{frame_re, frame_im, start_state}

-- The load encodes, from the start state for `first`, to "exactly those f64 bits, unused points included": two f64 that are equal here have equal bits, +0.0 and
-- -0.0 are two values, and no part of an encoded frame is a NaN. Points past 38,976 are not read.
pub record EncodesTo (t : Table) (m : Mapping) (first : Bool) (re im : List Float) (load : List ℕ) : Type 0 where
  pub re_is : frame_re t m load (start_state first) ≡ take main_symbols re
  pub im_is : frame_im t m load (start_state first) ≡ take main_symbols im

-- "a full load that encodes to exactly those f64 bits": the frame wants it
pub record Wants (t : Table) (m : Mapping) (first : Bool) (re im : List Float) (load : List ℕ) : Type 0 where
  pub full : FullLoad load (load_bytes t)
  pub encodes : EncodesTo t m first re im load

-- 13: "no full load encodes to the frame"
abbrev pub Unwanted : Table → Mapping → Bool → List Float → List Float → Type 0
Unwanted t m first re im = (load : List ℕ) → Wants t m first re im load → ⊥
