-- Document 01's number and values for each case of a position.
use Rattle.std.specs.Prelude.{[], ◌∷◌, ℕ, Result, Ok, Err}
use Rattle.refusal.specs.declared.Refusal.{Refusal}
use Rattle.refusal.specs.Rows.{number_of, Said}

abbrev pub position_said : Result ℕ Refusal → Said
position_said (Ok p) = (0, p ∷ [])
position_said (Err row) = (number_of (Err row), [])
