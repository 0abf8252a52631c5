-- The table's rows among those of the encoding calls.
use mathlib.Core.Path.{◌≡◌, sym, ◌∙◌}
use mathlib.Core.List.{List, [], ◌∷◌}
use Prim.Native.Nat.{ℕ}
use lib.Dec.{ltb}
use Rattle.refusal.specs.Rows.{Answer, Accepted, State, Space, Row, first_row}
use Rattle.refusal.proofs.RowLaws.{refused_by, passed_by}
use Rattle.isdbs_tables.specs.declared.Table.{Table}
use Rattle.isdbs_tables.specs.Tables.{table_rows, table_answer}
use Rattle.isdbs_tables.proofs.TableLaws.{table_refusing}
use Rattle.isdbs_rows.specs.EncodeRows.{short_parts, encode_rows}

module _ (t : Table) (s a b : ℕ) where
  abbrev rest : List Row
  rest = (State, ltb 63 s) ∷ (Space, short_parts a b) ∷ []

  -- the table's answer x refuses, or the rows below decide
  module _ (x : Answer) (e : x ≡ table_answer t) where
    pub table_refuses : (x ≡ Accepted → ⊥) → x ≡ first_row (encode_rows t s a b)
    table_refuses n = refused_by (table_rows t) rest x e n

    pub table_passes : {y : Answer} → x ≡ Accepted → y ≡ first_row ((State, ltb 63 s) ∷ (Space, short_parts a b) ∷ []) → y ≡ first_row (encode_rows t s a b)
    table_passes z h = passed_by (table_rows t) rest (table_refusing t) (sym z ∙ e) h
