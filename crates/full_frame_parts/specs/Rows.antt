-- Document 02, P1: the rows of laying and of taking apart, and what a call leaves in a lent slice.
use Rattle.std.specs.Prelude.{Bool, cond, ◌||◌, List, [], ◌∷◌, ℕ, ltb, length, Float}
use Rattle.refusal.specs.Rows.{Answer, Symbols, Space, accepted, Row}
use Rattle.trellis.specs.Lists.{laid}
use Rattle.full_frame_parts.specs.declared.Input.{Input}
use Rattle.full_frame_parts.specs.declared.Input.TheVariants.{Header, Main, Burst}
use Rattle.isdbs_frame.specs.Frame.{frame_symbols, main_symbols, burst_points, header_symbols}

-- "A header, main, burst .. shorter than its length": the lengths of one part of each
unfoldable pub short_inputs : ℕ → ℕ → ℕ → Bool
short_inputs h m b = ltb h header_symbols || (ltb m main_symbols || ltb b burst_points)

abbrev pub inputs_short : (Input → List Float) → Bool
inputs_short ins = short_inputs (length (ins Header)) (length (ins Main)) (length (ins Burst))

-- ".. or full-frame": the lengths of its two parts
unfoldable pub short_frame : ℕ → ℕ → Bool
short_frame re im = ltb re frame_symbols || ltb im frame_symbols

-- laying: a short input "falls under 6, a short output under 9"; `res` and `ims` are the two parts of the inputs
abbrev pub lay_rows : (Input → List Float) → (Input → List Float) → List Float → List Float → List Row
lay_rows res ims re im = (Symbols, inputs_short res || inputs_short ims) ∷ (Space, short_frame (length re) (length im)) ∷ []

-- taking apart
abbrev pub take_rows : List Float → List Float → (Input → List Float) → (Input → List Float) → List Row
take_rows re im res ims = (Symbols, short_frame (length re) (length im)) ∷ (Space, inputs_short res || inputs_short ims) ∷ []

-- accepted, `new` over the beginning of the slice and the rest as before; refused, all as before
abbrev pub leaves : Answer → List Float → List Float → List Float
leaves a new old = cond (accepted a) (laid new old) old
