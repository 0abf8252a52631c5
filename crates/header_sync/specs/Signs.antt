-- The signs of the header symbols that every frame has, and the scores of received parts against them. A score is counted with what keeps it from
-- going below 0: 1 more for one symbol, 20 more for 20, 40 more for 40.
use Rattle.std.specs.Prelude.{cond, List, ℕ, zero, suc, ◌+◌, ◌-◌, eqb, get_or, Float}
use Rattle.std.specs.Float.{nan, binary64}
use Rattle.std.specs.Float.Ieee.{lt, of_bits}
use Rattle.isdbs_frame.specs.Frame.{high_first}

-- "W1's tail ECD28h", "W2's 0B677h or its complement (W3's F4988h), high bit first"
abbrev pub tail1 : List ℕ
tail1 = high_first 20 0xecd28

abbrev pub tail2 : List ℕ
tail2 = high_first 20 0x0b677

abbrev pub tail3 : List ℕ
tail3 = high_first 20 0xf4988

-- "Header symbols 12 to 31 carry W1's tail .., 172 to 191 W2's"
abbrev pub place1 : ℕ
place1 = 12

abbrev pub place2 : ℕ
place2 = 172

abbrev pub zero64 : Float
zero64 = of_bits binary64 0

-- "+1 where it is above 0 and the sign is +1 .., -1 where it is the other way, 0 where it is 0 or a NaN": against the sign +1, and 1 more
unfoldable pub side : Float → ℕ
side x = cond (lt zero64 x) 2 (cond (lt x zero64) 0 1)

-- against the sign of a bit, "+1 for bit 0 and -1 for bit 1", and 1 more
unfoldable pub mark : ℕ → Float → ℕ
mark b x = cond (eqb b 0) (side x) (2 - side x)

-- "the scores .. over W1's 20 symbols": of the n symbols from a place on, and n more
unfoldable pub marks : List ℕ → List Float → ℕ → ℕ → ℕ
marks tail part at zero = 0
marks tail part at (suc n) = marks tail part at n + mark (get_or tail n 0) (get_or part (at + n) nan)

-- how far a number is from another
abbrev pub spread : ℕ → ℕ → ℕ
spread a b = (a - b) + (b - a)

abbrev pub smaller : ℕ → ℕ → ℕ
smaller a b = a - (a - b)
