-- Where the bits of a run and the bytes of a slot lie in the frame, as slots.rs has them.
use Rattle.isdbs_combination.specs.declared.Puncture.{Puncture}
use Rattle.std.specs.Prelude.{Bool, cond, ◌&&◌, ◌||◌, List, [], ◌∷◌, ℕ, zero, suc, ◌+◌, ◌-◌, ◌*◌, ◌/◌, ◌%◌, leb, ltb, eqb, length, Option, Some, None, Result, Ok}
use Rattle.refusal.specs.Rows.{Position, accepted, answered, Row, first_row, Said, says, number_of}
use Rattle.isdbs_combination.specs.declared.Combination.{Combination}
use Rattle.isdbs_combination.specs.declared.Ratio.{Ratio}
use Rattle.isdbs_combination.specs.declared.BitPair.{BitPair}
use Rattle.isdbs_tables.specs.declared.Table.{Table}
use Rattle.isdbs_plan.specs.declared.Run.{Run}
use Rattle.refusal.specs.declared.Refusal.{Refusal}
use Rattle.isdbs_core.specs.Answers.{byte_said}
use Rattle.isdbs_frame.specs.Frame.{slot_bytes, main, place_of}
use Rattle.isdbs_combination.specs.Combinations.{efficiency_of, puncture_of, pairs_of, period_of, slot_bits}
use Rattle.isdbs_tables.specs.Tables.{table_answer}
use Rattle.isdbs_marks.specs.Marks.{marked}
use Rattle.isdbs_plan.specs.RunsOf.{runs_of}

-- a pair holds X or Y of input i of a period, from 0
abbrev pub pair_holds : ℕ → BitPair → Bool
pair_holds i p = eqb (p.p1 / 2) i || eqb (p.p0 / 2) i

-- "the search for a bit's first pair": its index, and how many pairs there are where none holds it
unfoldable pub first_pair : ℕ → List BitPair → ℕ
first_pair i [] = 0
first_pair i (p ∷ ps) = cond (pair_holds i p) 0 (suc (first_pair i ps))

-- the symbol of a run, from its start, that carries the first coded bit of information bit b: so many pairs for each period before it, then
-- the pair of its place in the period; unpunctured, as many symbols as b bits take at num / den bits a symbol
abbrev pub symbol_by : Option Puncture → Ratio → ℕ → ℕ
symbol_by (Some p) r b = b / period_of p * length (pairs_of p) + first_pair (b % period_of p) (pairs_of p)
symbol_by None r b = b * r.den / r.num

abbrev pub symbol_of_bit : Combination → ℕ → ℕ
symbol_of_bit c b = symbol_by (puncture_of c) (efficiency_of c) b

-- refusal 2: "bit above 1,000,000"
abbrev pub last_bit : ℕ
last_bit = 1000000

abbrev pub bit_rows : ℕ → List Row
bit_rows b = (Position, ltb last_bit b) ∷ []

abbrev pub bit_symbol : Combination → ℕ → Said
bit_symbol c b = says (first_row (bit_rows b)) (symbol_of_bit c b ∷ [])

-- the marked slots of a run before its slot k
unfoldable pub marked_before : Combination → ℕ → ℕ
marked_before c zero = 0
marked_before c (suc k) = cond (marked c k) (suc (marked_before c k)) (marked_before c k)

-- byte of slot k of a run: the bytes of the run's marked slots follow each other, 203 of 8 bits for each
abbrev pub run_byte : Run → ℕ → ℕ → Option ℕ
run_byte r k byte =
    cond (marked r.combination k && ltb byte slot_bytes)
    (Some (place_of (main (r.symbol_start + symbol_of_bit r.combination (marked_before r.combination k * slot_bits + 8 * byte)))))
    None

abbrev pub has_slot : Run → ℕ → Bool
has_slot r slot = leb r.slot_start slot && ltb slot r.slot_end

-- in the run that has the slot; a slot that no run has is nowhere
unfoldable pub byte_in : List Run → ℕ → ℕ → Option ℕ
byte_in [] slot byte = None
byte_in (r ∷ rs) slot byte =
    cond (has_slot r slot) (run_byte r (slot - r.slot_start) byte) (byte_in rs slot byte)

-- the answer of a byte of a slot: the rows of the table, and where none holds the place or nothing
abbrev pub slot_byte_symbol : Table → ℕ → ℕ → Result (Option ℕ) Refusal
slot_byte_symbol t slot byte = answered (table_answer t) (byte_in (runs_of t) slot byte)

-- its number and values: 0 and the place, 0 and none, or the table's row and none
abbrev pub slot_byte_said : Table → ℕ → ℕ → Said
slot_byte_said t slot byte = cond {A = Said} (accepted (table_answer t)) (byte_said (Ok (byte_in (runs_of t) slot byte))) (number_of (table_answer t), [])
