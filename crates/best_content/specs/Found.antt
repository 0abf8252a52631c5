-- What the best content of a stretch is, and its leads. Definitions only.
use Rattle.std.specs.Prelude.{◌≡◌, List, ℕ, ◌+◌, ◌<◌, ◌≤ℤ◌, get_or, Float}
use Rattle.trellis.specs.Isdb
use Rattle.path_greatest.specs.Paths.{First}
use Rattle.path_greatest.specs.Fresh.{StartsIn}
use Rattle.path_greatest.specs.declared.Start.{Start}
use Rattle.best_grid.specs.Contents.{Content, worth, Leads}
use Rattle.best_grid.specs.Sides.{two, worth_at, chosen}

-- Of n steps with the metrics xs, four to a step, and their sides: the inputs us with the uncoded bits zs are those of a content from the given start (`content`, `begins`), no content from there has
-- a greater sum on the grid (`greatest`); "of equals the first path by P2 and P12" (`first`), and "of two C2 that fit alike document 01's" (`uncoded`); and in the steps of slot k, from mark k up to
-- mark k + 1, every content that differs is smaller by the slot's lead at least, and one exactly (`leads`).
pub record Found (start : Start) (xs : List Float) (sides marks : List ℕ) (slots n : ℕ) (us zs ls : List ℕ) : Type 0 where
  pub s : ℕ
  pub content : Content (two xs sides) n s us zs
  pub begins : StartsIn Isdb.states start s
  pub greatest : (r : ℕ) (vs ys : List ℕ) → Content (two xs sides) n r vs ys → StartsIn Isdb.states start r → worth (worth_at xs sides) r vs ys n ≤ℤ worth (worth_at xs sides) s us zs n
  pub first : (r : ℕ) (vs ys : List ℕ) → Content (two xs sides) n r vs ys → StartsIn Isdb.states start r → worth (worth_at xs sides) r vs ys n ≡ worth (worth_at xs sides) s us zs n → First Isdb.half Isdb.rule s us r vs n
  pub uncoded : (k : ℕ) → k < n → get_or zs k 0 ≡ chosen sides us s k
  pub leads : (k : ℕ) → k < slots → Leads (two xs sides) (StartsIn Isdb.states start) (worth_at xs sides) n s us zs (get_or marks k 0) (get_or marks (k + 1) 0) (get_or ls k 0)
