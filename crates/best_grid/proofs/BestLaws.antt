-- The best reading is that of greatest sum on the grid, and the grid hides little.
use Rattle.std.specs.Prelude.{◌≡◌, List, ℕ, ◌+◌, ◌%◌, ◌≤◌, ◌<◌, Float, get_or}
use Rattle.std.proofs.Common.{mod-lt, arith}
use Rattle.trellis.specs.ListLaws.{get_d_upto}
use Rattle.trellis.specs.Isdb
use Rattle.path_greatest.specs.Paths.{Reading, Best, Any}
use Rattle.path_greatest.specs.Fresh.{StartsIn}
use Rattle.path_greatest.specs.declared.Start.{Start}
use Rattle.path_greatest.specs.declared.Start.TheVariants.{Given, Unknown}
use Rattle.best_grid.specs.Grid.{grid_at, cost_at}
use Rattle.best_grid.proofs.GridLaws.{costed}
use Rattle.best_grid.specs.Costs.{table_at, word_at, begun, anywhere, ruled, paid}
use Rattle.best_grid.proofs.Readings.{known_reading, any_reading, known_found, any_found, known_paid, any_paid, begun_here, begun_only, anywhere_zero}
use Rattle.best_grid.specs.Best.{start_table, best_words, best_end, best_bits, best_start}

-- its bits are the inputs of the first path of greatest sum on the grid, among all paths of the n steps: `Reading.best`; and there is no other: `Reading.only`
pub best_reading : (start : Start) (q : ℕ → List Float) (n : ℕ) → n ≤ Isdb.longest_frame → Reading Isdb.half Isdb.labels Isdb.rule (StartsIn Isdb.states start) (grid_at q) n (best_bits start q n)
unfolding best_bits
best_reading (Given s) q n h =
    known_reading (grid_at q) (cost_at q) n h (costed q n) (s % 64) (best_words (Given s) q n) (mod-lt s (omega arith))
    (λ t l. get_d_upto (word_at (begun (s % 64)) (cost_at q)) 0 n t l)
best_reading Unknown q n h =
    any_reading (grid_at q) (cost_at q) n h (costed q n) (best_words Unknown q n)
    (λ t l. get_d_upto (word_at anywhere (cost_at q)) 0 n t l)

-- the same of its path by name
pub best_found : (start : Start) (q : ℕ → List Float) (n : ℕ) → n ≤ Isdb.longest_frame → Best Isdb.half Isdb.labels Isdb.rule (StartsIn Isdb.states start) Any (grid_at q) n (best_start start q n) (best_bits start q n)
unfolding best_bits best_start
best_found (Given s) q n h =
    known_found (grid_at q) (cost_at q) n h (costed q n) (s % 64) (best_words (Given s) q n) (mod-lt s (omega arith))
    (λ t l. get_d_upto (word_at (begun (s % 64)) (cost_at q)) 0 n t l)
best_found Unknown q n h =
    any_found (grid_at q) (cost_at q) n h (costed q n) (best_words Unknown q n)
    (λ t l. get_d_upto (word_at anywhere (cost_at q)) 0 n t l)

-- and what it costs
pub best_paid : (start : Start) (q : ℕ → List Float) (n : ℕ) → n ≤ Isdb.longest_frame
    → get_or (start_table start) (best_start start q n) 0 + paid (cost_at q) (best_start start q n) (best_bits start q n) n ≡ get_or (table_at (start_table start) (cost_at q) n) (best_end start q n) 0
unfolding best_bits best_start
best_paid (Given s) q n h = known_paid (grid_at q) (cost_at q) n h (costed q n) (s % 64) (best_words (Given s) q n) (λ t l. get_d_upto (word_at (begun (s % 64)) (cost_at q)) 0 n t l)
best_paid Unknown q n h = any_paid (grid_at q) (cost_at q) n h (costed q n) (best_words Unknown q n) (λ t l. get_d_upto (word_at anywhere (cost_at q)) 0 n t l)

-- the starts that a table allows
pub starts_zero : (start : Start) (k : ℕ) → StartsIn Isdb.states start k → get_or (start_table start) k 0 ≡ 0
starts_zero (Given s) k e = begun_here (s % 64) k (mod-lt s (omega arith)) e
starts_zero Unknown k e = anywhere_zero k

pub starts_only : (start : Start) (k : ℕ) → k < 64 → get_or (start_table start) k 0 < ruled → StartsIn Isdb.states start k
starts_only (Given s) k h l = begun_only (s % 64) k h l
starts_only Unknown k h l = tt
