-- What `judge` answers and leaves, and what it is worth. Definitions only.
use Rattle.std.specs.Prelude.{◌≡◌, Bool, List, [], ◌∷◌, ℕ, length, Float, Result, Ok, Err}
use Rattle.trellis.specs.Lists.{laid}
use Rattle.refusal.specs.Rows.{number_of, first_row, Said, says}
use Rattle.isdbs_tables.specs.declared.Table.{Table}
use Rattle.isdbs_plan.specs.RunsOf.{load_bytes}
use Rattle.isdbs_points.specs.declared.Mapping.{Mapping}
use Rattle.isdbs_points.specs.Layout.{FullLoad}
use Rattle.margins.specs.Margins.{Within}
use Rattle.judge_points.specs.Outside.{outside_counts, outside_sum}
use Rattle.judge.specs.Rows.{judge_rows}
use Rattle.refusal.specs.declared.Refusal.{Refusal}

-- what the call says: the number, and the sum
abbrev pub judged_said : Result ℕ Refusal → Said
judged_said (Ok sum) = (0, sum ∷ [])
judged_said (Err row) = (number_of (Err row), [])

module _ (re im : List Float) (load : List ℕ) (t : Table) (m : Mapping) (first : Bool) where
  -- by the first row that holds; where none does, with the number of points outside
  abbrev pub judged_answer : ℕ → Said
  judged_answer counts = says (first_row (judge_rows t (length load) re im counts)) (outside_sum re im load t m first ∷ [])

  -- the counts at the front of what was lent, the rest as before, and their sum
  pub record CountsLaid (counts₀ counts : List ℕ) (sum : ℕ) : Type 0 where
    pub counts_are : counts ≡ laid (outside_counts re im load t m first) counts₀
    pub sum_is : sum ≡ outside_sum re im load t m first

  -- "every part lies within the margins of these bytes: no other bytes fit"
  pub record Certain : Type 0 where
    pub within : Within re im load t m first
    pub only : (other : List ℕ) → FullLoad other (load_bytes t) → Within re im other t m first → other ≡ load

  -- judged with sum 0 it is certain, and with another sum the points do not lie within the margins
  pub record Worth (r : Result ℕ Refusal) : Type 0 where
    pub certain : r ≡ Ok 0 → Certain
    pub doubtful : (sum : ℕ) → r ≡ Ok sum → (sum ≡ 0 → ⊥) → Within re im load t m first → ⊥
