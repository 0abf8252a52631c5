-- The kept sums after an accepted push, by cases: the first of its window, one more of a window that is not full, one in place of the oldest.
use Rattle.std.specs.Prelude.{◌≡◌, Bool, false, List, ℕ, ◌≤◌, ◌<◌, ltb, length, take, set}
use Rattle.strain_window.specs.declared.WindowState.{WindowState}
use Rattle.strain_window.specs.Rows.{most_sum, sum_above, kept_sums}
use Rattle.strain_window.specs.Calls.{push_place, pushed_state}
use Rattle.strain_window.specs.WindowLaws.{Sound}

-- what row 14 and row 9 leave of an accepted push
pub record Allowed (v : WindowState) (sum : ℕ) (kept : List ℕ) : Type 0 where
  pub state_sound : Sound v
  pub sum_below : ltb most_sum sum ≡ false
  pub kept_below : sum_above (kept_sums v kept) ≡ false
  pub room : v.window ≤ length kept

-- the kept sums of the next state
abbrev pub next_sums : Bool → WindowState → ℕ → List ℕ → List ℕ
next_sums clear v sum kept = kept_sums (pushed_state clear v) (set kept (push_place clear v) sum)

-- ---- the write at the place p, and the first n places after it, which are summed
pub record Written (clear : Bool) (v : WindowState) (sum : ℕ) (kept : List ℕ) (p n : ℕ) : Type 0 where
  pub place_in : p < length kept
  pub front_in : n ≤ length (set kept p sum)
  pub front_length : length (take n (set kept p sum)) ≡ n
  pub front_most : length (take n (set kept p sum)) ≤ 256
  pub front_is : take n (set kept p sum) ≡ next_sums clear v sum kept
  pub front_below : sum_above (take n (set kept p sum)) ≡ false
