-- What the C call for mended stretches leaves.
use Rattle.std.specs.Prelude.{◌≡◌, Bool, List, ℕ, ◌%◌}
use Rattle.mend_distance.specs.Stretches.{WithinFour}
use Rattle.mend.specs.Rows.{mend_rows}
use Rattle.mend.specs.Calls.{Mends}
use Rattle.c_answers.specs.Answers.{answered}
use Rattle.trellis.specs.Isdb

-- the number of the first row that holds; `far` is row 15's condition, which `Left` explains
pub record Answers (bits : List ℕ) (decisions out list answer : ℕ) : Type 0 where
  pub far : Bool
  pub answers : answer ≡ answered (mend_rows bits decisions out list far)

-- where it accepts, what `mend` leaves, with the count in its place; where it refuses, all as before; 15 only where no coded stretch lies within four bits
pub record Left (s e : ℕ) (bits : List ℕ) (answer count₀ count : ℕ) (decisions₀ decisions out₀ out list₀ list : List ℕ) : Type 0 where
  pub mends : answer ≡ 0 → Mends s e bits count decisions₀ decisions out₀ out list₀ list
  pub keeps : (answer ≡ 0 → ⊥) → (count ≡ count₀) × (decisions ≡ decisions₀) × (out ≡ out₀) × (list ≡ list₀)
  pub none : answer ≡ 15 → (us : List ℕ) → WithinFour (s % Isdb.states) (e % Isdb.states) bits us → ⊥
