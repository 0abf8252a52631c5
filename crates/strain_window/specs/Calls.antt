-- What a push leaves: request P11.
use Rattle.std.specs.Prelude.{◌≡◌, Bool, cond, List, [], ◌∷◌, ℕ, ◌+◌, ◌%◌, min, max, set}
use Rattle.std.specs.Prelude.{Result, Ok, Err}
use Rattle.refusal.specs.declared.Refusal.{Refusal}
use Rattle.refusal.specs.Rows.{first_row, answer_of}
use Rattle.strain_window.specs.declared.WindowState.{WindowState}
use Rattle.strain_window.specs.declared.Pushed.{Pushed}
use Rattle.strain_window.specs.Rows.{kept_sums, push_rows}

unfoldable pub total_of : List ℕ → ℕ
total_of [] = 0
total_of (x ∷ xs) = x + total_of xs

-- 0 of no sums
unfoldable pub greatest_of : List ℕ → ℕ
greatest_of [] = 0
greatest_of (x ∷ xs) = max x (greatest_of xs)

-- "kept at place 0" of a clearing push, else at the next place
abbrev pub push_place : Bool → WindowState → ℕ
push_place clear v = cond clear 0 v.next

-- a clearing push "counts itself as the first"
abbrev pub fill_after : Bool → WindowState → ℕ
fill_after clear v = cond clear 1 (min (v.fill + 1) v.window)

abbrev pub pushed_state : Bool → WindowState → WindowState
pushed_state clear v = record { window = v.window; fill = fill_after clear v; next = (push_place clear v + 1) % v.window }

-- what an accepted push leaves: "A push writes no place but its own"
pub record Pushes (v : WindowState) (clear : Bool) (sum : ℕ) (r : Pushed) (kept₀ kept : List ℕ) : Type 0 where
  pub state_is : r.state ≡ pushed_state clear v
  pub kept_is : kept ≡ set kept₀ (push_place clear v) sum
  pub total_is : r.total ≡ total_of (kept_sums (pushed_state clear v) kept)
  pub greatest_is : r.greatest ≡ greatest_of (kept_sums (pushed_state clear v) kept)

-- "no buffer changes" of a refused push. Its state "comes back as given": the caller has the one that was handed in, and a refusal gives no other. Total and
-- greatest, which document 01 leaves free for a refused push, are not given
abbrev pub Unchanged : List ℕ → List ℕ → Type 0
Unchanged kept₀ kept = kept ≡ kept₀

-- what it leaves, by its result
abbrev pub Leaves : WindowState → Bool → ℕ → List ℕ → Result Pushed Refusal → List ℕ → Type 0
Leaves v clear sum kept₀ (Ok r) kept = Pushes v clear sum r kept₀ kept
Leaves v clear sum kept₀ (Err row) kept = Unchanged kept₀ kept

-- a push that was handed the state v and lent the sums kept₀, gave r and left the sums kept: the whole contract
pub record Called (v : WindowState) (clear : Bool) (sum : ℕ) (kept₀ : List ℕ) (r : Result Pushed Refusal) (kept : List ℕ) : Type 0 where
  pub answers : answer_of r ≡ first_row (push_rows v sum kept₀)
  pub leaves : Leaves v clear sum kept₀ r kept
