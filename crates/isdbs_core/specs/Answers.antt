-- Document 01's number and values for each case of the place of a byte.
use Rattle.std.specs.Prelude.{[], ◌∷◌, ℕ, Option, Some, None, Result, Ok, Err}
use Rattle.refusal.specs.declared.Refusal.{Refusal}
use Rattle.refusal.specs.Rows.{number_of, Said}

-- the place of a slot's byte: accepted, and nothing, where no symbol carries it
abbrev pub byte_said : Result (Option ℕ) Refusal → Said
byte_said (Ok (Some p)) = (0, p ∷ [])
byte_said (Ok None) = (0, [])
byte_said (Err row) = (number_of (Err row), [])
