-- Document 02, P1: the full frame, and from which place of the three inputs each of its 39,936 places takes its point.
use Rattle.std.specs.Prelude.{List, ℕ, ◌+◌, ◌*◌, ◌/◌, ◌%◌, ◌<◌, get_or, Float}
use Rattle.std.specs.Float.{nan}
use Rattle.trellis.specs.Lists.{upto}
use Rattle.isdbs_frame.specs.Frame.{Symbol, header, main, burst, place_of, symbol_at, frame_symbols, main_symbols, burst_points, header_symbols}
use Rattle.full_frame_parts.specs.declared.Input.{Input}
use Rattle.full_frame_parts.specs.declared.Input.TheVariants.{Header, Main, Burst}

-- "192 header points ..., 38,976 main points and 192 bursts of 4"
abbrev pub points_of : Input → ℕ
points_of Header = header_symbols
points_of Main = main_symbols
points_of Burst = burst_points

-- a place of one of the three inputs
pub data Source : Type 0 where
  from : Input → ℕ → Source

-- one that is read
abbrev pub InInput : Source → Type 0
InInput (from a i) = i < points_of a

-- "Burst input holds symbol j of burst b at place 4b+j"
abbrev pub source_of : Symbol → Source
source_of (header i) = from Header i
source_of (main k) = from Main k
source_of (burst b j) = from Burst (4 * b + j)

-- the symbol that an input place holds
abbrev pub symbol_of : Source → Symbol
symbol_of (from Header i) = header i
symbol_of (from Main k) = main k
symbol_of (from Burst q) = burst (q / 4) (q % 4)

-- the input place that place p of the frame takes its point from
abbrev pub source_at : ℕ → Source
source_at p = source_of (symbol_at p)

-- the place of the frame that takes the point of an input place
abbrev pub place_in : Source → ℕ
place_in s = place_of (symbol_of s)

-- ---- one part, real or imaginary
-- the three inputs
abbrev pub lent_inputs : List Float → List Float → List Float → Input → List Float
lent_inputs hs ms bs Header = hs
lent_inputs hs ms bs Main = ms
lent_inputs hs ms bs Burst = bs

-- "points are only copied": the one at an input place
abbrev pub lent_point : (Input → List Float) → Source → Float
lent_point ins (from a i) = get_or (ins a) i nan

-- the frame laid from three inputs
abbrev pub full_part : (Input → List Float) → List Float
full_part ins = upto (λ p. lent_point ins (source_at p)) frame_symbols

-- "It also takes a full frame apart": what it holds for an input
abbrev pub taken : Input → List Float → List Float
taken a full = upto (λ i. get_or full (place_in (from a i)) nan) (points_of a)
