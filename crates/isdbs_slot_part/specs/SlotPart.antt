-- Document 01: "The bytes of valid slot k are handed back as a part of the caller's decoded bytes".
use Rattle.std.specs.Prelude.{cond, not, List, [], ◌∷◌, ◌++◌, ℕ, ◌*◌, leb, eqb, length, take, drop}
use Rattle.refusal.specs.Rows.{Answer, Position, Length, accepted, Row, first_row}
use Rattle.isdbs_tables.specs.declared.Table.{Table}
use Rattle.isdbs_frame.specs.Frame.{slot_bytes}
use Rattle.isdbs_tables.specs.Tables.{table_rows}
use Rattle.isdbs_plan.specs.RunsOf.{valid_total, load_bytes}

-- refusal 2: "valid slot number not below the runs' total of valid slots"; refusal 5: "slot part of bytes not exactly the load"
abbrev pub slot_part_rows : List ℕ → Table → ℕ → List Row
slot_part_rows bytes t k =
    table_rows t ++ (Position, leb (valid_total t) k) ∷ (Length, not (eqb (length bytes) (load_bytes t))) ∷ []

abbrev pub slot_part_answer : List ℕ → Table → ℕ → Answer
slot_part_answer bytes t k = first_row (slot_part_rows bytes t k)

-- the 203 bytes from 203 k on; "A refused slot part is empty"
abbrev pub slot_part : List ℕ → Table → ℕ → List ℕ
slot_part bytes t k = cond (accepted (slot_part_answer bytes t k)) (take slot_bytes (drop (slot_bytes * k) bytes)) []
