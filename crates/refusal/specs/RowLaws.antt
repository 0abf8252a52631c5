-- Laws of answers and of the rows of a call.
use Rattle.std.specs.Prelude.{◌≡◌, Bool, true, false, cond, List, [], ◌∷◌, ℕ, eqb}
use Rattle.refusal.specs.Rows.{Answer, Accepted, Table, Position, Traceback, State, Length, Symbols, Sample, Scale, Space, PartUnit, ReservedWord, Window, Code, NoLoad, Unmendable, number_of, accepted, Row}

-- ---- answers
-- the answers by their numbers
abbrev pub answers : List Answer
answers = Accepted ∷ Table ∷ Position ∷ Traceback ∷ State ∷ Length ∷ Symbols ∷ Sample ∷ Scale ∷ Space ∷ PartUnit ∷ ReservedWord ∷ Code ∷ NoLoad ∷ Window ∷ Unmendable ∷ []

-- the places of the refusals among the answers, and what `let Answer::Accepted = .. else` tells where it leaves: `tag` is the place of an answer
abbrev pub refusals : List ℕ
refusals = 1 ∷ 2 ∷ 3 ∷ 4 ∷ 5 ∷ 6 ∷ 7 ∷ 8 ∷ 9 ∷ 10 ∷ 11 ∷ 12 ∷ 13 ∷ 14 ∷ 15 ∷ []

-- ---- rows
-- every row of a list refuses
abbrev pub refusing : List Row → Bool
refusing [] = true
refusing (row ∷ rows) = cond (accepted row.0) false (refusing rows)

-- the condition of the first row that has the answer a
abbrev pub condition_of : Answer → List Row → Bool
condition_of a [] = false
condition_of a (row ∷ rows) = cond (eqb (number_of a) (number_of row.0)) row.1 (condition_of a rows)

-- no row holds
abbrev pub NoneHolds : List Row → Type 0
NoneHolds [] = Unit
NoneHolds (row ∷ rows) = (row.1 ≡ false) × NoneHolds rows

-- the rows without the first that has the answer a
abbrev pub without : Answer → List Row → List Row
without a [] = []
without a (row ∷ rows) = cond (eqb (number_of a) (number_of row.0)) rows (row ∷ without a rows)

-- and with b for its condition
abbrev pub replaced : Answer → Bool → List Row → List Row
replaced a b [] = []
replaced a b (row ∷ rows) = cond (eqb (number_of a) (number_of row.0)) ((row.0, b) ∷ rows) (row ∷ replaced a b rows)

-- rows none of which has the answer a
abbrev pub lacking : Answer → List Row → Bool
lacking a [] = true
lacking a (row ∷ rows) = cond (eqb (number_of a) (number_of row.0)) false (lacking a rows)

-- ---- the order of the table
-- one row for each of the table's, in its order
abbrev pub whole_table : (table part reserved position traceback code state window long symbols sample scale space load mend : Bool) → List Row
whole_table table part reserved position traceback code state window long symbols sample scale space load mend =
    (Table, table)
    ∷ (PartUnit, part)
    ∷ (ReservedWord, reserved)
    ∷ (Position, position)
    ∷ (Traceback, traceback)
    ∷ (Code, code)
    ∷ (State, state)
    ∷ (Window, window)
    ∷ (Length, long)
    ∷ (Symbols, symbols)
    ∷ (Sample, sample)
    ∷ (Scale, scale)
    ∷ (Space, space)
    ∷ (NoLoad, load)
    ∷ (Unmendable, mend)
    ∷ []
