-- The values that a call takes. Document 01, "Where a call is turned back".
use Rattle.std.specs.Prelude.{Bool, false, not, ◌||◌, List, [], ◌∷◌, ℕ, Float}
use Rattle.std.specs.Float.{binary32}
use Rattle.std.specs.Float.Ieee.{of_bits}
use Rattle.ieee.specs.Within.{within}

-- "not finite or beyond" the limit, of any of the values
unfoldable pub some_beyond : Float → List Float → Bool
some_beyond limit [] = false
some_beyond limit (x ∷ xs) = not (within limit x) || some_beyond limit xs

-- 2^32, for path values
abbrev pub path_limit : Float
path_limit = of_bits binary32 0x4f80_0000

-- 1,048,576, for a stream value
abbrev pub stream_limit : Float
stream_limit = of_bits binary32 0x4980_0000
