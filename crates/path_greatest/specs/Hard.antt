-- Soft pairs of hard bits. Request P6: "soft pairs of +1 for a 0 bit or -1 for a 1 bit".
use Rattle.std.specs.Prelude.{cond, List, [], ◌∷◌, ℕ, ◌/◌, ◌%◌, eqb, Float}
use Rattle.std.specs.Float.{binary32}
use Rattle.std.specs.Float.Ieee.{of_bits}
use Rattle.trellis.specs.Step.{Step, pair}

-- "at most four wrong coded bits"
abbrev pub most_wrong : ℕ
most_wrong = 4

abbrev pub soft : ℕ → Float
soft b = cond (eqb b 1) (of_bits binary32 0xbf80_0000) (of_bits binary32 0x3f80_0000)

-- of a stretch of coded pairs 2 X + Y: X's value, then Y's, of each
abbrev pub soft_pairs : List ℕ → List Float
soft_pairs [] = []
soft_pairs (p ∷ ps) = soft (p / 2) ∷ soft (p % 2) ∷ soft_pairs ps

-- the trellis step of a pair
abbrev pub hard : ℕ → Step
hard p = pair (soft (p / 2)) (soft (p % 2))
