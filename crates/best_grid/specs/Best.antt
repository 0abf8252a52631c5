-- The best reading of n quadruples of metrics: the bits that the decision words give, traced from the cheapest end.
use Rattle.std.specs.Prelude.{List, ℕ, ◌-◌, ◌%◌, Float}
use Rattle.trellis.specs.Lists.{upto}
use Rattle.trellis.specs.Step.{input, back}
use Rattle.trellis.specs.Isdb
use Rattle.path_greatest.specs.declared.Start.{Start}
use Rattle.path_greatest.specs.declared.Start.TheVariants.{Given, Unknown}
use Rattle.best_grid.specs.Grid.{cost_at}
use Rattle.best_grid.specs.Costs.{table_at, word_at, cheapest, begun, anywhere}

-- the costs before the first step
abbrev pub start_table : Start → List ℕ
start_table (Given s) = begun (s % Isdb.states)
start_table Unknown = anywhere

abbrev pub best_words : Start → (ℕ → List Float) → ℕ → List ℕ
best_words start q n = upto (word_at (start_table start) (cost_at q)) n

abbrev pub best_end : Start → (ℕ → List Float) → ℕ → ℕ
best_end start q n = cheapest (table_at (start_table start) (cost_at q) n) (Isdb.states - 1)

unfoldable pub best_bits : Start → (ℕ → List Float) → ℕ → List ℕ
best_bits start q n = upto (input Isdb.half (best_words start q n) n (best_end start q n)) n

-- the start of its path
unfoldable pub best_start : Start → (ℕ → List Float) → ℕ → ℕ
best_start start q n = back Isdb.half (best_words start q n) n (best_end start q n) n
