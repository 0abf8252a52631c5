-- "The fit of a full load: the sum over its steps of the grid metric at the coded pair that the load sends there, for TC8PSK with the sign that its C2 gives (the quadruple is that of the better C2; the
-- other one counts negative)": what a step adds, and costs, by its uncoded bit and its coded pair. A step's side is 0 where it has no uncoded bit; else 16 and, in bit l, the better uncoded bit at the pair
-- l, which is the sign of the correlation in TC8PSK. The metric is the better one's; the other one's is its negative.
use Rattle.std.specs.Prelude.{◌≡◌, Bool, true, cond, List, ℕ, ◌+◌, ◌-◌, ◌/◌, ◌%◌, ◌^◌, ◌<◌, eqb, leb, ℤ, neg_ℤ, get_or, Float}
use Rattle.std.specs.Float.{nan}
use Rattle.trellis.specs.Isdb
use Rattle.trellis.specs.Run.{quadruple}
use Rattle.best_grid.specs.Grid.{level, above, below, grid, cost}

-- what the other uncoded bit costs: a level and the metric
unfoldable pub mirror : Float → ℕ
mirror x = level + above x - below x

module _ (xs : List Float) (sides : List ℕ) where
  abbrev pub two : ℕ → Bool
  two t = leb 16 (get_or sides t 0)

  -- the better uncoded bit
  abbrev pub better : ℕ → ℕ → ℕ
  better t l = get_or sides t 0 / 2 ^ l % 2

  abbrev metric : ℕ → ℕ → Float
  metric t l = get_or (quadruple xs t) l nan

  unfoldable pub worth_at : ℕ → ℕ → ℕ → ℤ
  worth_at t z l = cond (two t) (cond (eqb z (better t l)) (grid (metric t l)) (neg_ℤ (grid (metric t l)))) (grid (metric t l))

  unfoldable pub price_at : ℕ → ℕ → ℕ → ℕ
  price_at t z l = cond (two t) (cond (eqb z (better t l)) (cost (metric t l)) (mirror (metric t l))) (cost (metric t l))

  -- no metric of a step with an uncoded bit is negative: it is the greater of a number and its negative
  abbrev pub Upright : ℕ → Type 0
  Upright n = (t l : ℕ) → t < n → l < 4 → two t ≡ true → below (metric t l) ≡ 0

-- ---- "of two C2 that fit alike document 01's (1 exactly when the correlation is below 0)": the uncoded bits of a path, at each step the better one at its coded pair, 0 where it has none
abbrev pub chosen_at : ℕ → ℕ → ℕ
chosen_at side l = cond (leb 16 side) (side / 2 ^ l % 2) 0

abbrev pub chosen : List ℕ → List ℕ → ℕ → ℕ → ℕ
chosen sides bits s t = chosen_at (get_or sides t 0) (Isdb.label_at s bits t)
