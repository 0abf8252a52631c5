-- Request P6: "any two different stretches with equal start, end and length differing in at least 10 coded bits, shown from the two octal generators". By linearity two
-- stretches differ as their exclusive-or weighs, and a table of least weights is checked at all 128 branches.
use Rattle.std.specs.Prelude.{List, [], ◌∷◌, ℕ, ◌+◌}
use Rattle.trellis.specs.Code.{isdb, output}

-- the ones of a branch
unfoldable pub weight : ℕ → ℕ → ℕ
weight u s = output isdb 0o171 u s + output isdb 0o133 u s

-- the fewest ones on the way from a state to state 0
unfoldable pub least : List ℕ
least =
    0 ∷ 2 ∷ 3 ∷ 3 ∷ 3 ∷ 5 ∷ 4 ∷ 4 ∷ 5 ∷ 3 ∷ 6 ∷ 6 ∷ 6 ∷ 4 ∷ 5 ∷ 5 ∷ 7 ∷ 5 ∷ 4 ∷ 4 ∷ 6 ∷ 6 ∷ 7 ∷ 7 ∷ 6 ∷ 6 ∷ 5 ∷ 5 ∷ 5 ∷ 7 ∷ 6 ∷ 6
    ∷ 8 ∷ 8 ∷ 7 ∷ 5 ∷ 5 ∷ 5 ∷ 6 ∷ 4 ∷ 7 ∷ 7 ∷ 6 ∷ 6 ∷ 6 ∷ 6 ∷ 7 ∷ 7 ∷ 7 ∷ 7 ∷ 6 ∷ 6 ∷ 6 ∷ 6 ∷ 5 ∷ 7 ∷ 6 ∷ 6 ∷ 7 ∷ 7 ∷ 7 ∷ 7 ∷ 6 ∷ 6 ∷ []
