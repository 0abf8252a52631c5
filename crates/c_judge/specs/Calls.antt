-- What `isdbs_judge` leaves and is worth. Definitions only.
use Rattle.std.specs.Prelude.{◌≡◌, Bool, List, ℕ, Float, Result, Ok, Err}
use Rattle.isdbs_tables.specs.declared.Table.{Table}
use Rattle.isdbs_points.specs.declared.Mapping.{Mapping}
use Rattle.margins.specs.Margins.{Within}
use Rattle.refusal.specs.declared.Refusal.{Refusal}
use Rattle.judge.specs.Judged.{Certain}

-- the sum where there is one, else what was there
abbrev pub sum_of : Result ℕ Refusal → ℕ → ℕ
sum_of (Ok sum) old = sum
sum_of (Err row) old = old

-- accepted with sum 0 it is certain; with another sum the points do not lie within the margins
pub record WorthC (re im : List Float) (load : List ℕ) (t : Table) (m : Mapping) (first : Bool) (answer sum : ℕ) : Type 0 where
  pub certain : answer ≡ 0 → sum ≡ 0 → Certain re im load t m first
  pub doubtful : answer ≡ 0 → (sum ≡ 0 → ⊥) → Within re im load t m first → ⊥
