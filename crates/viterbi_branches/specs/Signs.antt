-- A sign table, by the input u, the low state bit b and the half state j: an entry is below 0 exactly where the coded bit is 1.
use Rattle.std.specs.Prelude.{◌≡◌, List, [], ℕ, ◌+◌, ◌*◌, ◌/◌, ◌%◌, ◌<◌, eqb, get_or, Float}
use Rattle.std.specs.Float.{nan, binary32}
use Rattle.std.specs.Float.Ieee.{lt, of_bits}
use Rattle.trellis.specs.Isdb

-- the table of X, and of Y: the branch from the state 2 j + b on the input u
pub record XSigns (t : List (List (List Float))) : Type 0 where
  pub sign : (u b j : ℕ) → u < 2 → b < 2 → j < Isdb.half
      → lt (get_or (get_or (get_or t u []) b []) j nan) (of_bits binary32 0) ≡ eqb (Isdb.labels u (2 * j + b) / 2) 1

pub record YSigns (t : List (List (List Float))) : Type 0 where
  pub sign : (u b j : ℕ) → u < 2 → b < 2 → j < Isdb.half
      → lt (get_or (get_or (get_or t u []) b []) j nan) (of_bits binary32 0) ≡ eqb (Isdb.labels u (2 * j + b) % 2) 1
