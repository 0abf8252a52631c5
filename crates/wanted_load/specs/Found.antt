-- What `wanted_load` answers and leaves. Definitions only.
use Rattle.std.specs.Prelude.{◌≡◌, Bool, true, false, List, [], ◌∷◌, ℕ, length, Float, Result, Ok, Err}
use Rattle.trellis.specs.Lists.{laid}
use Rattle.refusal.specs.declared.Refusal.{Refusal}
use Rattle.refusal.specs.declared.Refusal.TheVariants as row
use Rattle.refusal.specs.Rows.{Answer, Accepted, answer_of, number_of, first_row, Said, says}
use Rattle.isdbs_tables.specs.declared.Table.{Table}
use Rattle.isdbs_plan.specs.RunsOf.{load_bytes}
use Rattle.isdbs_points.specs.declared.Mapping.{Mapping}
use Rattle.wanted_read.specs.Wanted.{Wants, Unwanted}
use Rattle.wanted_load.specs.Rows.{wanted_rows}

-- what the call says: the number, and the bytes of the load
abbrev pub load_said : Result ℕ Refusal → Said
load_said (Ok n) = (0, n ∷ [])
load_said (Err row) = (number_of (Err row), [])

-- a Bool that says whether P holds
abbrev pub Tells : Bool → Type 0 → Type 0
Tells b P = (b ≡ true → P) × (b ≡ false → P → ⊥)

-- "The first row that holds, from the top, gives the number returned, alone": none is whether no full load encodes to the frame
abbrev pub Answered : Table → Mapping → Bool → List Float → List Float → ℕ → Result ℕ Refusal → Type 0
Answered t m first re im room r =
    (none : Bool) → Tells none (Unwanted t m first re im) → load_said r ≡ says (first_row (wanted_rows t (length re) (length im) room none)) (load_bytes t ∷ [])

-- where no row before 13 holds: the front of the bytes is a full load that encodes to the frame, and the rest is as before; or 13, "precisely if no full load encodes
-- to the frame", and no byte changes
pub data Outcome (t : Table) (m : Mapping) (first : Bool) (re im : List Float) (r : Result ℕ Refusal) (bytes₀ bytes : List ℕ) : Type 0 where
  found : r ≡ Ok (load_bytes t) → (load : List ℕ) → Wants t m first re im load → bytes ≡ laid load bytes₀ → Outcome t m first re im r bytes₀ bytes
  none : r ≡ Err row.NoLoad → Unwanted t m first re im → bytes ≡ bytes₀ → Outcome t m first re im r bytes₀ bytes

-- an earlier row: its answer, and no byte changes
pub record Turned (a : Answer) (r : Result ℕ Refusal) (bytes₀ bytes : List ℕ) : Type 0 where
  pub answer : answer_of r ≡ a
  pub refused : a ≡ Accepted → ⊥
  pub kept : bytes ≡ bytes₀

-- ---- what the search finds
-- found: the bytes begin with the wanted load; else no full load encodes to the frame, and no byte changes
pub record Searched (t : Table) (m : Mapping) (first : Bool) (re im : List Float) (r : Bool) (bytes₀ bytes : List ℕ) : Type 0 where
  pub yes : r ≡ true → (load : List ℕ) × Wants t m first re im load × (bytes ≡ laid load bytes₀)
  pub no : r ≡ false → Unwanted t m first re im × (bytes ≡ bytes₀)
