-- The slots of a stretch of n steps, by their marks: slot k has the steps from mark k up to mark k + 1.
use Rattle.std.specs.Prelude.{◌≡◌, List, ◌++◌, ℕ, ◌+◌, ◌-◌, ◌*◌, ◌/◌, ◌≤◌, ◌<◌, length, get_or, take, drop, Float}
use Rattle.trellis.specs.Lists.{laid}
use Rattle.best_grid.specs.Costs.{table_at}
use Rattle.best_grid.specs.Backward.{low, back_at, other_run, fars, least_of}
use Rattle.best_grid.specs.Sides.{two, price_at, Upright}
use Rattle.trellis.specs.Isdb
use Rattle.best_grid.specs.Leading.{seq}

-- the elements from a up to b; a list with new elements behind its first a
abbrev pub piece : {A : Type 0} → ℕ → ℕ → List A → List A
piece a b xs = take (b - a) (drop a xs)

abbrev pub behind : {A : Type 0} → ℕ → List A → List A → List A
behind a new xs = take a xs ++ laid new (drop a xs)

pub record Marked (marks : List ℕ) (slots n : ℕ) : Type 0 where
  pub count : slots + 1 ≤ length marks
  pub first : get_or marks 0 0 ≡ 0
  pub rising : (k : ℕ) → k < slots → get_or marks k 0 < get_or marks (k + 1) 0
  pub under : (k : ℕ) → k ≤ slots → get_or marks k 0 ≤ n
  pub last : get_or marks slots 0 ≡ n

-- the tables of costs before the first k slots, 64 numbers to each
abbrev pub Saved : List ℕ → (ℕ → ℕ → ℕ) → List ℕ → ℕ → List ℕ → Type 0
Saved d c marks slots tables = (k s : ℕ) → k < slots → s < 64 → get_or tables (64 * k + s) 0 ≡ get_or (table_at d c (get_or marks k 0)) s 0

-- no kept number is too large for a sum
abbrev pub Lowered : ℕ → List ℕ → Type 0
Lowered slots tables = (k s : ℕ) → k < slots → s < 64 → get_or tables (64 * k + s) 0 ≤ 0x7fff_ffff_ffff_ffff

-- the sums of two tables fit
abbrev pub Summable : List ℕ → List ℕ → Type 0
Summable a d = (k : ℕ) → k < 64 → get_or a k 0 + get_or d k 0 ≤ 0xffff_ffff_ffff_ffff

-- the lead of slot k: the least cost of a content that differs in it, from the table kept before it, less what the reading costs
abbrev pub lead_at : List Float → List ℕ → List ℕ → List ℕ → List ℕ → List ℕ → ℕ → ℕ → ℕ → ℕ
lead_at xs sides bits uncoded marks tables own n k =
    least_of (piece (64 * k) (64 * k + 64) tables) (other_run (two xs sides) (price_at xs sides) (seq bits) (seq uncoded) fars (back_at (low (two xs sides) (price_at xs sides)) (get_or marks (k + 1) 0) (n - get_or marks (k + 1) 0)) (get_or marks k 0) (get_or marks (k + 1) 0 - get_or marks k 0)) 64 - own

-- what a reading is lent: n steps of metrics and sides, the marks of the slots, a lead for each, and room; no metric of a step with an uncoded bit is negative
pub record Lent (xs : List Float) (sides marks : List ℕ) (tables decisions bits uncoded leads : List ℕ) : Type 0 where
  pub marked : Marked marks (length leads) (length xs / 4)
  pub few : length xs / 4 ≤ Isdb.longest_frame
  pub sided : length xs / 4 ≤ length sides
  pub kept : 64 * length leads ≤ length tables
  pub words : length xs / 4 ≤ length decisions
  pub read : length bits ≡ length xs / 4
  pub beside : length uncoded ≡ length xs / 4
  pub upright : Upright xs sides (length xs / 4)
