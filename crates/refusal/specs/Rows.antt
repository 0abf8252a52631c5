-- Document 01, "Where a call is turned back".
use Rattle.std.specs.Prelude.{◌≡◌, Bool, true, false, cond, List, [], ◌∷◌, ℕ, eqb, leb, ltb, length}
use Rattle.trellis.specs.Lists.{first_place}
use Rattle.std.specs.Prelude.{Result, Ok, Err}
use Rattle.refusal.specs.declared.Refusal.{Refusal}
use Rattle.refusal.specs.declared.Refusal.TheVariants as row

-- what a call answers: accepted, or the row that turns it back
abbrev pub Answer : Type 0
Answer = Result Unit Refusal

pattern abbrev pub Accepted : Answer
Accepted = Ok tt

pattern abbrev pub Table : Answer
Table = Err row.Table

pattern abbrev pub Position : Answer
Position = Err row.Position

pattern abbrev pub Traceback : Answer
Traceback = Err row.Traceback

pattern abbrev pub State : Answer
State = Err row.State

pattern abbrev pub Length : Answer
Length = Err row.Length

pattern abbrev pub Symbols : Answer
Symbols = Err row.Symbols

pattern abbrev pub Sample : Answer
Sample = Err row.Sample

pattern abbrev pub Scale : Answer
Scale = Err row.Scale

pattern abbrev pub Space : Answer
Space = Err row.Space

pattern abbrev pub PartUnit : Answer
PartUnit = Err row.PartUnit

pattern abbrev pub ReservedWord : Answer
ReservedWord = Err row.ReservedWord

pattern abbrev pub Window : Answer
Window = Err row.Window

pattern abbrev pub Code : Answer
Code = Err row.Code

pattern abbrev pub NoLoad : Answer
NoLoad = Err row.NoLoad

pattern abbrev pub Unmendable : Answer
Unmendable = Err row.Unmendable

-- the table's first column; 0 where no row holds
abbrev pub number_of : Answer → ℕ
number_of Accepted = 0
number_of Table = 1
number_of Position = 2
number_of Traceback = 3
number_of State = 4
number_of Length = 5
number_of Symbols = 6
number_of Sample = 7
number_of Scale = 8
number_of Space = 9
number_of PartUnit = 10
number_of ReservedWord = 11
number_of Window = 14
number_of Code = 12
number_of NoLoad = 13
number_of Unmendable = 15

-- the numbers as the table has them, from the top; document 02: 10 and 11 "in that sequence directly after 1 and before 2" (P5),
-- 12 "checked right before 4" (P7), 14 "checked where refusal 4 stands" (P11), 13 "checked last" (P9), 15 "checked last" (P13)
abbrev pub order : List ℕ
order = 1 ∷ 10 ∷ 11 ∷ 2 ∷ 3 ∷ 12 ∷ 4 ∷ 14 ∷ 5 ∷ 6 ∷ 7 ∷ 8 ∷ 9 ∷ 13 ∷ 15 ∷ []

-- no row holds
abbrev pub accepted : Answer → Bool
accepted a = eqb (number_of a) 0

-- a row as a call has it: its answer, and whether its condition holds
abbrev pub Row : Type 0
Row = Answer × Bool

-- "The first row that holds, from the top, gives the number returned, alone"
abbrev pub first_row : List Row → Answer
first_row [] = Accepted
first_row (row ∷ rows) = cond row.1 row.0 (first_row rows)

-- a row put among others, below those of which `stands` says that they stand above it
abbrev pub placed : (Row → Bool) → Row → List Row → List Row
placed stands new [] = new ∷ []
placed stands new (row ∷ rows) = cond (stands row) (row ∷ placed stands new rows) (new ∷ row ∷ rows)

-- one thing where the call is accepted, another where it is refused
abbrev pub Either : Answer → Type 0 → Type 0 → Type 0
Either a done kept = (a ≡ Accepted → done) × ((a ≡ Accepted → ⊥) → kept)

-- what a call with a result answers: the row that turns it back, or what it made
abbrev pub answered : {A : Type 0} → Answer → A → Result A Refusal
answered (Ok _) made = Ok made
answered (Err row) made = Err row

-- and its answer alone
abbrev pub answer_of : {A : Type 0} → Result A Refusal → Answer
answer_of (Ok _) = Accepted
answer_of (Err row) = Err row

-- what a call says: the number, and the values that come with an acceptance
abbrev pub Said : Type 0
Said = ℕ × List ℕ

abbrev pub says : Answer → List ℕ → Said
says a values = cond (accepted a) (0, values) (number_of a, [])

-- "from the top": each row of a call stands in the table, none above the row before it
abbrev pub place : Row → ℕ
place row = first_place (number_of row.0) order

abbrev pub down_from : ℕ → List Row → Bool
down_from p [] = true
down_from p (row ∷ rows) = cond (leb p (place row)) (cond (ltb (place row) (length order)) (down_from (place row) rows) false) false

abbrev pub from_top : List Row → Bool
from_top rows = down_from 0 rows
