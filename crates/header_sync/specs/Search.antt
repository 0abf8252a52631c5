-- The first place at which a frame fits best.
use Rattle.std.specs.Prelude.{cond, List, ℕ, zero, suc, ◌+◌, ◌-◌, ◌*◌, ltb, length, Float}
use Rattle.isdbs_frame.specs.Frame.{frame_symbols}
use Rattle.header_sync.specs.Signs.{tail1, tail2, spread, smaller}
use Rattle.header_sync.specs.Fits.{fit_by}

-- A A + B B: the sums are held with 40 more
unfoldable pub squares : ℕ → ℕ → ℕ
squares re im = spread re 40 * spread re 40 + spread im 40 * spread im 40

abbrev pub peak_by : List ℕ → List ℕ → List Float → List Float → ℕ → ℕ
peak_by one two re im at = squares (fit_by one two re im at).re (fit_by one two re im at).im

abbrev pub peak_at : List Float → List Float → ℕ → ℕ
peak_at re im at = peak_by tail1 tail2 re im at

-- of the place `from` and the n after it, the first with the greatest f
unfoldable pub found_by : (ℕ → ℕ) → ℕ → ℕ → ℕ
found_by f from zero = from
found_by f from (suc n) = cond (ltb (f (found_by f from n)) (f (from + suc n))) (from + suc n) (found_by f from n)

-- "of all places from `from` on at which a frame still fits": so many after the first, by the lengths of the two parts
abbrev pub further_of : ℕ → ℕ → ℕ → ℕ
further_of n m from = smaller n m - (from + frame_symbols)

abbrev pub found_at : List Float → List Float → ℕ → ℕ
found_at re im from = found_by (peak_at re im) from (further_of (length re) (length im) from)
