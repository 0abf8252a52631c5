-- The kind of a frame and the sums of its header.
use Rattle.std.specs.Prelude.{Bool, cond, ◌||◌, List, ℕ, ◌+◌, ◌-◌, ◌*◌, ltb, length, Float}
use Rattle.isdbs_frame.specs.Frame.{frame_symbols}
use Rattle.header_sync.specs.declared.Fit.{Fit}
use Rattle.header_sync.specs.Signs.{tail1, tail2, place1, place2, marks}

-- ---- by the scores over W1's and W2's 20 symbols of the real and the imaginary parts, each with 20 more: x1 = a1 + 20, x2 = a2 + 20, y1 = b1 + 20,
-- y2 = b2 + 20

-- "k is 1 where a1 a2 + b1 b2 is above 0 (first frame of a superframe), else -1": (x1 - 20) (x2 - 20) + (y1 - 20) (y2 - 20) is above 0
unfoldable pub is_first : ℕ → ℕ → ℕ → ℕ → Bool
is_first x1 x2 y1 y2 = ltb (20 * (x1 + x2 + y1 + y2)) (x1 * x2 + y1 * y2 + 800)

-- "A = a1 + k a2, B = b1 + k b2, from -40 to 40": with 40 more
unfoldable pub joined : Bool → ℕ → ℕ → ℕ
joined first x1 x2 = cond first (x1 + x2) (x1 + (40 - x2))

unfoldable pub fit_of : ℕ → ℕ → ℕ → ℕ → Fit
fit_of x1 x2 y1 y2 =
    record {
      first = is_first x1 x2 y1 y2;
      re = joined (is_first x1 x2 y1 y2) x1 x2;
      im = joined (is_first x1 x2 y1 y2) y1 y2;
    }

-- ---- of the frame that begins at a point of a capture
unfoldable pub fit_by : List ℕ → List ℕ → List Float → List Float → ℕ → Fit
fit_by one two re im at = fit_of (marks one re (at + place1) 20) (marks two re (at + place2) 20) (marks one im (at + place1) 20) (marks two im (at + place2) 20)

abbrev pub fit_at : List Float → List Float → ℕ → Fit
fit_at re im at = fit_by tail1 tail2 re im at

-- "Row 6: fewer than at + 39,936 points of either part (also where that sum has no u64)"
unfoldable pub no_frame : ℕ → ℕ → ℕ → Bool
no_frame n m at = ltb n (at + frame_symbols) || ltb m (at + frame_symbols)

abbrev pub short_at : List Float → List Float → ℕ → Bool
short_at re im at = no_frame (length re) (length im) at
