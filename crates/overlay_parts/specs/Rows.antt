-- The refusal rows of the three encodings.
use Rattle.std.specs.Prelude.{Bool, not, ◌||◌, List, [], ◌∷◌, ℕ, ◌*◌, eqb, leb, ltb}
use Rattle.refusal.specs.Rows.{Row}
use Rattle.refusal.specs.Rows as answer
use Rattle.short_code.specs.declared.Code.{Code}
use Rattle.short_code.specs.Codes.{good_code, states_of}

-- the exclusive-or of strings of n and m bytes into `bits` places; 5: request P14 speaks of "two input strings of equal length"
abbrev pub string_rows : ℕ → ℕ → ℕ → List Row
string_rows n m bits = (answer.Length, not (eqb n m)) ∷ (answer.Space, ltb bits n) ∷ []

-- 4: "The limit 63 on an encoder state in refusal 4 becomes 2^(length-1) - 1" (request P7), of either start state
abbrev pub bad_states : Code → ℕ → ℕ → Bool
bad_states c s r = leb (states_of c) s || leb (states_of c) r

-- 9: a place for each of the n bytes of the exclusive-or, and two for each in the three outputs
abbrev pub short_outputs : ℕ → ℕ → ℕ → ℕ → ℕ → Bool
short_outputs n bits x y z = ltb bits n || (ltb x (2 * n) || (ltb y (2 * n) || ltb z (2 * n)))

-- strings of n and m bytes
abbrev pub overlay_rows : Code → ℕ → ℕ → ℕ → ℕ → ℕ → ℕ → ℕ → ℕ → List Row
overlay_rows c s r n m bits x y z =
    (answer.Code, not (good_code c)) ∷ (answer.State, bad_states c s r) ∷ (answer.Length, not (eqb n m)) ∷ (answer.Space, short_outputs n bits x y z) ∷ []
