-- Two coded stretches compared, bit by bit. Request P6, "A stretch with a known end".
use Rattle.std.specs.Prelude.{List, [], ◌∷◌, ℕ, ◌+◌, ◌/◌, ◌%◌, ◌<◌}

-- the coded bits in which two pairs 2 X + Y differ
abbrev pub apart : ℕ → ℕ → ℕ
apart a b = (a / 2 + b / 2) % 2 + (a % 2 + b % 2) % 2

-- and two stretches of such pairs, as far as both reach
abbrev pub differing : List ℕ → List ℕ → ℕ
differing [] ys = 0
differing (x ∷ xs) [] = 0
differing (x ∷ xs) (y ∷ ys) = apart x y + differing xs ys

-- each is a bit; each is a pair
abbrev pub Bits : List ℕ → Type 0
Bits [] = Unit
Bits (u ∷ us) = (u < 2) × Bits us

abbrev pub Coded : List ℕ → Type 0
Coded [] = Unit
Coded (p ∷ ps) = (p < 4) × Coded ps
