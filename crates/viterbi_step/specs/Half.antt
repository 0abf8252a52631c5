-- What k turns of a half step leave.
use Rattle.std.specs.Prelude.{◌≡◌, ◌⊎◌, List, ℕ, ◌+◌, ◌*◌, ◌≤◌, ◌<◌, length, get_or, Float}
use Rattle.std.specs.Float.{nan}
use Rattle.trellis.specs.Lists.{packed}
use Rattle.trellis.specs.Step as trellis
use Rattle.trellis.specs.Isdb.{wins, next}
use Rattle.trellis.specs.Isdb

-- the states from 32 u on, k of them, are written in l, the others are as in l₀, and the decisions are in w
pub record Half (pm : List Float) (x : trellis.Step) (u : ℕ) (l₀ : List Float) (k : ℕ) (l : List Float) (w : ℕ) : Type 0 where
  pub long : length l ≡ Isdb.states
  pub values : (j : ℕ) → j < k → get_or l (Isdb.half * u + j) nan ≡ next pm x (Isdb.half * u + j)
  pub others : (i : ℕ) → (i < Isdb.half * u) ⊎ (Isdb.half * u + k ≤ i) → get_or l i nan ≡ get_or l₀ i nan
  pub bits : w ≡ packed (λ j. wins pm x (Isdb.half * u + j)) k
