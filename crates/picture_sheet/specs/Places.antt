-- Places of a picture: the bin of a part of a point, the height of a bar, and the scale of bars.
use Rattle.std.specs.Prelude.{ℕ, ◌*◌, ◌/◌, cond, List, [], ◌∷◌, from_bits, nat_le, Float}
use Rattle.std.specs.Float.{binary64}
use Rattle.std.specs.Float.Ieee.{neg, lt, add, mul, to_unsigned}

-- n, and 191 where it is more
abbrev pub up_to191 : ℕ → ℕ
up_to191 n = cond (nat_le n 191) n 191

-- the whole part of t, from 0 to 191; 0 for a NaN
unfoldable pub bin_at : Float → ℕ
bin_at t =
    cond (lt (neg (from_bits binary64 0x3ff0_0000_0000_0000)) t)
    (cond (lt t (from_bits binary64 0x43f0_0000_0000_0000)) (up_to191 (to_unsigned 64 t)) 191)
    0

-- the 192 bins from -1.5 to 1.5, each 1/64 wide: the whole part of 64 x + 96
unfoldable pub bin_of : Float → ℕ
bin_of x = bin_at (add binary64 (mul binary64 x (from_bits binary64 0x4050_0000_0000_0000)) (from_bits binary64 0x4058_0000_0000_0000))

-- a bar's height where `top` is 320 high; a larger bar ends with the scale
unfoldable pub height_of : ℕ → ℕ → ℕ
height_of n top = cond (nat_le n top) (n * 320 / top) 320

-- docs/BENCH.md: "the first of 5, 10, 25, 50, 100, 250, 500, 1,000 and 2,000 that is enough"; 2,000 where none is
abbrev pub first_enough : List ℕ → ℕ → ℕ
first_enough [] most = 2000
first_enough (top ∷ tops) most = cond (nat_le most top) top (first_enough tops most)

-- what one of the scale's five lines stands for
unfoldable pub unit_for : ℕ → ℕ
unit_for most = first_enough (5 ∷ 10 ∷ 25 ∷ 50 ∷ 100 ∷ 250 ∷ 500 ∷ 1000 ∷ []) most / 5
