-- The rows of `mend`: request P13, and document 01, "Where a call is turned back".
use Rattle.std.specs.Prelude.{Bool, false, not, ◌||◌, List, [], ◌∷◌, ◌++◌, ℕ, ◌*◌, ◌%◌, eqb, ltb, length}
use Rattle.refusal.specs.Rows.{Row, Length, Space, Unmendable}
use Rattle.std.specs.List.{list_any}
use Rattle.trellis.specs.Isdb.{frame_words}

-- "A bit byte above 1"
abbrev pub some_no_bit : List ℕ → Bool
some_no_bit bits = list_any (λ b. ltb 1 b) bits

-- "at most 4,096 steps", two bits each
abbrev pub most_steps : ℕ
most_steps = 4096

abbrev pub most_bits : ℕ
most_bits = 2 * most_steps

-- "the position list always needing four places"
abbrev pub places : ℕ
places = 4

-- 5: "A bit byte above 1 and a stretch not in twos or too long"; 9: "too short an output", the list, the decisions
abbrev pub lent_rows : List ℕ → ℕ → ℕ → ℕ → List Row
lent_rows bits decisions out list =
    (Length, not (eqb (length bits % 2) 0) || ltb most_bits (length bits) || some_no_bit bits)
    ∷ (Space, ltb out (length bits) || ltb list places || ltb decisions frame_words)
    ∷ []

-- all rows, over whether no coded stretch lies within four bits: 15 is "checked last"
abbrev pub mend_rows : List ℕ → ℕ → ℕ → ℕ → Bool → List Row
mend_rows bits decisions out list none = lent_rows bits decisions out list ++ (Unmendable, none) ∷ []
