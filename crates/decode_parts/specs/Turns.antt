-- Two lists by turns.
use Rattle.std.specs.Prelude.{cond, ℕ, ◌/◌, ◌%◌, eqb, Float}

-- the first of one, the first of the other, the second of one
abbrev pub turns : (ℕ → Float) → (ℕ → Float) → ℕ → Float
turns f g i = cond (eqb (i % 2) 0) (f (i / 2)) (g (i / 2))
