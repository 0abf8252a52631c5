-- What the header of a frame says, and of the frame that a search finds.
use Rattle.std.specs.Prelude.{cond, List, ℕ, ltb, Float, Result}
use Rattle.refusal.specs.declared.Refusal.{Refusal}
use Rattle.refusal.specs.Rows.{Accepted, Symbols, answered}
use Rattle.header_sync.specs.declared.Fit.{Fit}
use Rattle.header_sync.specs.Fits.{fit_at, short_at}
use Rattle.header_sync.specs.Search.{squares, found_at}
use Rattle.header_mean.specs.declared.Mean.{Mean}
use Rattle.header_mean.specs.Means.{mean_at, turn_of}
use Rattle.header_find.specs.declared.Header.{Header}
use Rattle.header_find.specs.declared.Found.{Found}

-- "kind .., turn, A and B": the sums are held with 40 more
unfoldable pub header_of : Fit → Mean → Header
header_of f c = record { first = f.first; turn = turn_of (squares f.re f.im) c; re = f.re; im = f.im }

-- "of the frame that begins at point `at`"
abbrev pub header_at : List Float → List Float → ℕ → Header
header_at re im at = header_of (fit_at re im at) (mean_at re im at)

-- "Row 6: fewer than at + 39,936 points of either part"
abbrev pub header_says : List Float → List Float → ℕ → Result Header Refusal
header_says re im at = answered (cond (short_at re im at) Symbols Accepted) (header_at re im at)

-- "`turn` is 8 where that greatest is below 1,296"
unfoldable pub doubted : Header → Header
doubted h = record { first = h.first; turn = cond (ltb (squares h.re h.im) 1296) 8 h.turn; re = h.re; im = h.im }

-- "and what `isdbs_header` says there"
abbrev pub frame_at : List Float → List Float → ℕ → Found
frame_at re im p = record { place = p; header = doubted (header_at re im p) }

-- "Row 6 as above"
abbrev pub find_says : List Float → List Float → ℕ → Result Found Refusal
find_says re im from = answered (cond (short_at re im from) Symbols Accepted) (frame_at re im (found_at re im from))
