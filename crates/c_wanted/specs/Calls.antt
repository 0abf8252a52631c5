-- What `isdbs_wanted_load` answers and leaves. Definitions only.
use Rattle.std.specs.Prelude.{◌≡◌, Bool, List, ℕ, length, Float}
use Rattle.trellis.specs.Lists.{laid}
use Rattle.isdbs_tables.specs.declared.Table.{Table}
use Rattle.isdbs_points.specs.declared.Mapping.{Mapping}
use Rattle.wanted_read.specs.Wanted.{Wants, Unwanted}
use Rattle.wanted_load.specs.Rows.{wanted_rows}
use Rattle.wanted_load.specs.Found.{Tells}
use Rattle.c_answers.specs.Answers.{answered}

-- the number of the first row that holds; none is whether no full load encodes to the frame
abbrev pub AnsweredC : Table → Mapping → Bool → List Float → List Float → ℕ → ℕ → Type 0
AnsweredC t m first re im room r = (none : Bool) → Tells none (Unwanted t m first re im) → r ≡ answered (wanted_rows t (length re) (length im) room none)

-- accepted: the front of the bytes is a full load that encodes to the frame, the rest as before; refused: all as before
pub record Left (t : Table) (m : Mapping) (first : Bool) (re im : List Float) (r : ℕ) (bytes₀ bytes : List ℕ) : Type 0 where
  pub accepted : r ≡ 0 → (load : List ℕ) × Wants t m first re im load × (bytes ≡ laid load bytes₀)
  pub refused : (r ≡ 0 → ⊥) → bytes ≡ bytes₀
