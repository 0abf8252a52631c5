-- A row of metrics, filled from the front; the paths that it makes.
use mathlib.Core.Path.{◌≡◌, ◌∙◌, ap}
use mathlib.Core.List.{List}
use Prim.Native.Nat.{ℕ, ◌+◌, ◌*◌, ◌/◌, ◌%◌, ◌≤◌, ◌<◌}
use native.Mathlib.Omega.{arith}
use lib.ListN.{length, get_or, set, length-set}
use lib.Ieee.{Float, nan, binary32, add}
use Rattle.trellis.specs.ListLaws.{get_d_upto}
use Rattle.trellis.specs.WrittenLaws.{Written, written_more, written_whole}
use Rattle.trellis.specs.Step as trellis
use Rattle.trellis.specs.Step.{four}
use Rattle.trellis.specs.Isdb.{cand}
use Rattle.viterbi_four.specs.Rows.{branch_metric, metric_row}

module _ (m : List Float) (u b : ℕ) where
  -- j metrics of the row are written
  abbrev pub Row : ℕ → List Float → Type 0
  Row j r = (j ≤ 32) × (length r ≡ 32) × Written nan (branch_metric m u b) j r

  pub row_more : (j : ℕ) (r : List Float) (v : Float) → Row j r → j < 32 → v ≡ branch_metric m u b j → Row (j + 1) (set r j v)
  row_more j r v t h e =
      (omega arith, length-set r j v ∙ t.1, written_more nan (branch_metric m u b) j r v (rw t.1 h) t.2 e)

  pub row_whole : (j : ℕ) (r : List Float) → Row j r → j ≡ 32 → r ≡ metric_row m u b
  unfolding metric_row
  row_whole j r t e = written_whole nan (branch_metric m u b) 32 r t.1 (rw e at t).2

  -- the path from the state i = 2 j + b into the state k = 32 u + j
  pub row_cand : (pm r : List Float) (j i k : ℕ) → r ≡ metric_row m u b → j < 32 → i ≡ 2 * j + b → k ≡ 32 * u + j
      → add binary32 (get_or pm i nan) (get_or r j nan) ≡ cand pm (four m) k b
  unfolding metric_row trellis.cand trellis.branch
  row_cand pm r j i k is-r h is-i is-k =
      let at_j : k % 32 ≡ j = omega arith in
      let at-u : k / 32 ≡ u = omega arith in
      let e : get_or r j nan ≡ branch_metric m u b j = ap (λ (l : List Float). get_or l j nan) is-r ∙ get_d_upto (branch_metric m u b) nan 32 j h in
      rw (e, at_j, at-u, is-i)
