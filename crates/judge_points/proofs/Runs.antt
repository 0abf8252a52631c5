-- The run of a symbol, run after run.
use mathlib.Core.Path.{◌≡◌, ◌∙◌}
use mathlib.Core.List.{List}
use Prim.Native.Nat.{ℕ, ◌+◌, ◌<◌, ◌≤◌}
use native.Mathlib.Numerals.{add-one}
use lib.ListN.{get_or, length, drop, drop_of_length-le}
use lib.Seq.{drop-cons}
use borrow.Author.Tests.{lt-ltb, le-ltb}
use Rattle.isdbs_plan.specs.declared.Run.{Run}
use Rattle.isdbs_plan.specs.RunsOf.{no_run}
use Rattle.judge_points.specs.Given.{run_at}

module _ {A : Type 0} (none : A) (f : Run → A) (list : List Run) (k : ℕ) where
  -- the first i runs end at or before k
  abbrev pub Passed : ℕ → Type 0
  Passed i = run_at none f list k ≡ run_at none f (drop i list) k

  pub passed_more : (i : ℕ) → i < length list → Passed i → (get_or list i no_run).symbol_end ≤ k → Passed (i + 1)
  unfolding run_at
  passed_more i l p h = p ∙ rw (add-one i, drop-cons list i no_run l, le-ltb k (get_or list i no_run).symbol_end h)

  pub found : (i : ℕ) → i < length list → Passed i → k < (get_or list i no_run).symbol_end → f (get_or list i no_run) ≡ run_at none f list k
  unfolding run_at
  found i l p h = rw (p, drop-cons list i no_run l, lt-ltb k (get_or list i no_run).symbol_end h)

  pub past_all : (i : ℕ) → length list ≤ i → Passed i → none ≡ run_at none f list k
  unfolding run_at
  past_all i l p = rw (p, drop_of_length-le list {i = i} l)
