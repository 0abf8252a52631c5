-- The aligned frame.
use Rattle.std.specs.Prelude.{Bool, not, ◌||◌, List, [], ◌∷◌, ℕ, length, get_or, drop, Float}
use Rattle.std.specs.Float.{nan, binary64}
use Rattle.std.specs.Float.Ieee.{add, sub, mul, div, lt}
use Rattle.refusal.specs.Rows.{Symbols, Sample, Space, Row}
use Rattle.trellis.specs.Lists.{upto}
use Rattle.isdbs_frame.specs.Frame.{frame_symbols}
use Rattle.full_frame_parts.specs.Rows.{short_frame}
use Rattle.isdbs_rows.specs.DecodeRows.{part_limit, some_of_beyond}
use Rattle.header_sync.specs.Signs.{zero64}
use Rattle.header_sync.specs.Fits.{short_at}
use Rattle.header_mean.specs.declared.Mean.{Mean}
use Rattle.header_mean.specs.Means.{mean_at}

-- ---- of two parts whose first points are the frame's
-- "((re c.re + im c.im) / d, (im c.re - re c.im) / d) .., each operation rounded once"
unfoldable pub turned_re : Mean → Float → Float → Float
turned_re c x y = div binary64 (add binary64 (mul binary64 x c.re) (mul binary64 y c.im)) c.power

unfoldable pub turned_im : Mean → Float → Float → Float
turned_im c x y = div binary64 (sub binary64 (mul binary64 y c.re) (mul binary64 x c.im)) c.power

abbrev pub laid_re : Mean → List Float → List Float → List Float
laid_re c re im = upto (λ i. turned_re c (get_or re i nan) (get_or im i nan)) frame_symbols

abbrev pub laid_im : Mean → List Float → List Float → List Float
laid_im c re im = upto (λ i. turned_im c (get_or re i nan) (get_or im i nan)) frame_symbols

-- "a part of the 39,936 points not finite or beyond 65,536, or d not above 0"
unfoldable pub bad_points : List Float → List Float → Float → Bool
bad_points re im power = some_of_beyond part_limit re frame_symbols || (some_of_beyond part_limit im frame_symbols || not (lt zero64 power))

-- rows 7 and "9 (outputs under 39,936)"
abbrev pub front_rows : Mean → List Float → List Float → List Float → List Float → List Row
front_rows c re im outRe outIm = (Sample, bad_points re im c.power) ∷ (Space, short_frame (length outRe) (length outIm)) ∷ []

-- ---- of the frame that begins at point `at` of a capture
-- "Rows 6, 7 .., 9"
abbrev pub align_rows : List Float → List Float → ℕ → List Float → List Float → List Row
align_rows re im at outRe outIm = (Symbols, short_at re im at) ∷ front_rows (mean_at re im at) (drop at re) (drop at im) outRe outIm

abbrev pub aligned_re : List Float → List Float → ℕ → List Float
aligned_re re im at = laid_re (mean_at re im at) (drop at re) (drop at im)

abbrev pub aligned_im : List Float → List Float → ℕ → List Float
aligned_im re im at = laid_im (mean_at re im at) (drop at re) (drop at im)
