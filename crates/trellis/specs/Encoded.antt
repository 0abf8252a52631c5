-- Encoding a list of inputs from a state.
use Rattle.std.specs.Prelude.{List, [], ◌∷◌, map, ℕ, ◌/◌, ◌%◌}
use Rattle.trellis.specs.Code.{Code, half, label, moved}

-- "Only the low bit of an input or known bit's byte counts"
abbrev pub low_bits : List ℕ → List ℕ
low_bits us = map (λ u. u % 2) us

-- the bits of coded pairs 2 X + Y: X, then Y, of each
abbrev pub bits_of : List ℕ → List ℕ
bits_of [] = []
bits_of (l ∷ ls) = l / 2 ∷ l % 2 ∷ bits_of ls

module _ (c : Code) where
  -- 2 X + Y of each input, from the state s
  unfoldable pub encoded : ℕ → List ℕ → List ℕ
  encoded s [] = []
  encoded s (u ∷ us) = label c u s ∷ encoded (moved (half c) u s) us

  -- the state after the last one
  unfoldable pub reached : ℕ → List ℕ → ℕ
  reached s [] = s
  reached s (u ∷ us) = reached (moved (half c) u s) us

  -- X and Y of each byte of a string, from the state s; the state after the string
  abbrev pub coded_bits : ℕ → List ℕ → List ℕ
  coded_bits s us = bits_of (encoded s (low_bits us))

  abbrev pub last_state : ℕ → List ℕ → ℕ
  last_state s us = reached s (low_bits us)
