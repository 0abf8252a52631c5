-- A table of the 128 branch numbers, by the input u, the low state bit b and the half state j: an entry is 2 X + Y of the branch from the
-- state 2 j + b on the input u.
use Rattle.std.specs.Prelude.{◌≡◌, List, [], ℕ, ◌+◌, ◌*◌, ◌<◌, get_or}
use Rattle.trellis.specs.Isdb

pub record BranchNumbers (t : List (List (List ℕ))) : Type 0 where
  pub number : (u b j : ℕ) → u < 2 → b < 2 → j < Isdb.half → get_or (get_or (get_or t u []) b []) j 0 ≡ Isdb.labels u (2 * j + b)
