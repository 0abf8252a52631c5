-- Row 5 of what only a C call can be handed: path values that are not 64, and lengths that the rows above do not depend on.
use Rattle.std.specs.Prelude.{Bool, true, not, List, [], ◌∷◌, ◌++◌, eqb, ltb, length, Float}
use Rattle.refusal.specs.Rows.{Length, Row, place, placed}
use Rattle.trellis.specs.Isdb

-- a row that stands above row 5 in document 01's table
abbrev pub above_length : Row → Bool
above_length row = ltb (place row) (place (Length, true))

-- a row 5 at its place among a call's rows: below those that stand above it
abbrev pub with_length : Bool → List Row → List Row
with_length b rows = placed above_length (Length, b) rows

-- 5: path values that are not 64
abbrev pub with_states : List Float → List Row → List Row
with_states pm rows = with_length (not (eqb (length pm) Isdb.states)) rows

-- the rows above row 5, then a row 5 that holds
abbrev pub until_length : List Row → List Row
until_length above = above ++ (Length, true) ∷ []
