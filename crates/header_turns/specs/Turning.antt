-- A capture turned by quarters of a turn, and what a header says of it.
use Rattle.std.specs.Prelude.{◌≡◌, Bool, cond, ◌&&◌, List, ℕ, zero, suc, ◌+◌, ◌-◌, ◌%◌, ltb, get_or, Float}
use Rattle.std.specs.Float.{nan}
use Rattle.std.specs.Float.Ieee.{neg, lt}
use Rattle.header_sync.specs.declared.Fit.{Fit}
use Rattle.header_sync.specs.Signs.{zero64}
use Rattle.header_mean.specs.declared.Mean.{Mean}
use Rattle.header_mean.specs.Means.{near_axis}
use Rattle.header_find.specs.declared.Header.{Header}

-- turned by a quarter: (re, im) is (-im, re), exactly, at each point
pub record Quarter (re im turnedRe turnedIm : List Float) : Type 0 where
  pub real : (i : ℕ) → get_or turnedRe i nan ≡ neg (get_or im i nan)
  pub imaginary : (i : ℕ) → get_or turnedIm i nan ≡ get_or re i nan

-- A becomes -B and B becomes A; the sums are held with 40 more, so -B is 80 less what B is held as
abbrev pub quarter_fit : Fit → Fit
quarter_fit f = record { first = f.first; re = 80 - f.im; im = f.re }

-- two eighths more; none stays none
abbrev pub quarter_turn : ℕ → ℕ
quarter_turn t = cond (ltb t 8) ((t + 2) % 8) t

abbrev pub quarter_header : Header → Header
quarter_header h = record { first = h.first; turn = quarter_turn h.turn; re = 80 - h.im; im = h.re }

-- a mean with a turn that lies near both axes: one of two infinities, and no other (`one-finite`); (inf, inf) has the turn 0, and turned by a quarter 4
unfoldable pub both_axes : Mean → Bool
both_axes c = lt zero64 c.power && (near_axis c.re c.im && near_axis c.im c.re)

-- n quarters, of kind and sums, and of all that a header says
unfoldable pub turned_fit : ℕ → Fit → Fit
turned_fit zero f = f
turned_fit (suc n) f = quarter_fit (turned_fit n f)

unfoldable pub turned_header : ℕ → Header → Header
turned_header zero h = h
turned_header (suc n) h = quarter_header (turned_header n h)

pub data Quarters (re im : List Float) : ℕ → List Float → List Float → Type 0 where
  none : Quarters re im zero re im
  more : {n : ℕ} {x y u v : List Float} → Quarters re im n x y → Quarter x y u v → Quarters re im (suc n) u v
