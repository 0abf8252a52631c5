-- The path values between two subtractions of the maximum. After steps that add at most 512 J in sum, and take at most 512 D from the best, no value is above 512 J, the
-- best is not below -512 D, and for each i the states that i steps lead to from some state are not further down than `depth i`, less the drift. Six steps lead anywhere: so no value is
-- below -512 (B + 12 c), however many steps there are.
use Rattle.std.specs.Prelude.{◌≡◌, List, get_or, length, Float}
use Prim.Native.Nat.{ℕ, zero, suc, ◌+◌, ◌-◌, ◌*◌, ◌<◌, ◌≤◌}
use Rattle.std.specs.Float.{nan, binary32}
use Rattle.ieee.specs.Value.{Num}
use Rattle.range_paths.specs.Bounds.{most, Above, Below}
use Rattle.range_paths.specs.Reach.{Reach}

-- a step adds at most 512 c and takes at most 512 d from the best; a value may fall to -512 B before it counts as far behind. The latter is room for 64 steps each way, and
-- for the states that a known start is not at, -1,000,000
pub record Limits (c d B : ℕ) : Type 0 where
  pub wide : 64 * c + 64 * d ≤ B
  pub start : 1954 ≤ B
  pub fits : B + 13 * c ≤ most

-- how far down the states are that i steps lead to
unfoldable pub depth : ℕ → ℕ → ℕ → ℕ
depth c B zero = B
depth c B (suc i) = depth c B i + 2 * c

pub record Bounded (c B J D : ℕ) (pm : List Float) : Type 0 where
  pub count : length pm ≡ 64
  pub num : (s : ℕ) → s < 64 → Num binary32 (get_or pm s nan)
  pub high : (s : ℕ) → s < 64 → Below (get_or pm s nan) J
  pub best : ℕ
  pub best_under : best < 64
  pub best_above : Above (get_or pm best nan) D
  pub seed : ℕ → ℕ
  pub seed_under : (i : ℕ) → seed i < 64
  pub reach : (i : ℕ) → i ≤ 6 → (s : ℕ) → s < 64 → Reach i (seed i) s → Above (get_or pm s nan) (depth c B i - J)

-- one state more in front
abbrev pub led : ℕ → (ℕ → ℕ) → ℕ → ℕ
led b f zero = b
led b f (suc i) = f i
