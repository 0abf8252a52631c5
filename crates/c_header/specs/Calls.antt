-- The rows and the values of the C calls on headers.
use Rattle.std.specs.Prelude.{Bool, cond, List, [], ◌∷◌, ℕ, ℤ, pos, ◌-ℤ◌, Float}
use Rattle.refusal.specs.Rows.{Symbols, Row}
use Rattle.header_sync.specs.Fits.{short_at}
use Rattle.header_sync.specs.Search.{found_at}
use Rattle.header_find.specs.declared.Header.{Header}
use Rattle.header_find.specs.Headers.{header_at, doubted}

-- "Row 6: fewer than at + 39,936 points of either part"
abbrev pub header_rows : List Float → List Float → ℕ → List Row
header_rows re im at = (Symbols, short_at re im at) ∷ []

-- "kind (1 first, 0 other)"
abbrev pub kind_of : Bool → ℕ
kind_of first = cond first 1 0

-- A or B, of a sum that is held with 40 more
unfoldable pub sum_of : ℕ → ℤ
sum_of s = pos s -ℤ pos 40

-- "and what `isdbs_header` says there; `turn` is 8 where that greatest is below 1,296"
abbrev pub found_header : List Float → List Float → ℕ → Header
found_header re im from = doubted (header_at re im (found_at re im from))
