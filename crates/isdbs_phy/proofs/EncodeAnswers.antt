-- The rows of the encoding calls.
use mathlib.Core.Path.{◌≡◌, sym, ◌∙◌}
use mathlib.Core.Bool.{false}
use mathlib.Core.List.{List, [], ◌∷◌}
use Prim.Native.Nat.{ℕ}
use lib.Dec.{ltb}
use Rattle.refusal.specs.Rows.{Answer, Accepted, State, Space, Row, first_row}
use Rattle.refusal.proofs.RowLaws.{neither, passed, row_false}
use Rattle.isdbs_tables.specs.declared.Table.{Table}
use Rattle.isdbs_tables.specs.Tables.{table_rows, TableAccepted}
use Rattle.isdbs_tables.proofs.TableLaws.{then_accepted}
use Rattle.isdbs_phy.specs.EncodeRows.{short_parts, encode_rows, encode_frame_rows}

module _ (t : Table) (s a b : ℕ) where
  abbrev rest : List Row
  rest = (State, ltb 63 s) ∷ (Space, short_parts a b) ∷ []

  -- where all rows pass, none of their conditions holds
  pub rows_pass : (x : Answer) → x ≡ first_row (encode_rows t s a b) → x ≡ Accepted → TableAccepted t × (ltb 63 s ≡ false) × (ltb a 38976 ≡ false) × (ltb b 38976 ≡ false)
  rows_pass x e z =
      let p = then_accepted t rest (sym e ∙ z) in
      let q = passed rest tt p.1 in
      let w = neither (ltb a 38976) (ltb b 38976) (q Space) in
      (p.0, q State, w.0, w.1)

  -- a state up to 63 leaves the rows of `encode_frame`
  pub fewer_rows : ltb 63 s ≡ false → first_row (encode_rows t s a b) ≡ first_row (encode_frame_rows t a b)
  fewer_rows h = rw h (row_false (table_rows t) ((Space, short_parts a b) ∷ []) State)
