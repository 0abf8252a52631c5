-- What follows from a table's rows: the one place where they are opened.
use Rattle.std.specs.Prelude.{◌≡◌, Bool, false, List, [], ◌∷◌, ◌++◌, ℕ, ◌≤◌, T}
use borrow.Author.Tests.{ltb-false}
use Rattle.refusal.specs.Rows as answer
use Rattle.refusal.specs.Rows.{Row, first_row}
use Rattle.refusal.specs.RowLaws.{refusing}
use Rattle.refusal.proofs.RowLaws.{neither, refusing_both, passed, refused_above, passed_above, both_passed}
use Rattle.isdbs_tables.specs.declared.Entry.{Entry}
use Rattle.isdbs_tables.specs.declared.Table.{Table}
use Rattle.trellis.specs.Lists.{Each}
use Rattle.isdbs_tables.specs.Tables.{slot_sum, part_unit, reserved_word, some, table_rows, table_answer, TableAccepted}
use Rattle.isdbs_combination.specs.Combinations.{frame_slots}

-- each entry is whole units
abbrev pub WholeUnits : List Entry → Type 0
WholeUnits es = Each (λ e. part_unit e ≡ false) es

-- a test that holds of no entry holds of none
none_of : (test : Entry → Bool) (es : List Entry) → some test es ≡ false → Each (λ e. test e ≡ false) es
unfolding some
none_of test [] h = tt
none_of test (e ∷ es) h = let n = neither (test e) (some test es) h in (n.0, none_of test es n.1)

module _ (t : Table) where
  pub table_refusing : T (refusing (table_rows t))
  unfolding table_rows
  table_refusing = tt

  pub then_refusing : (rows : List Row) → T (refusing rows) → T (refusing (table_rows t ++ rows))
  then_refusing rows r = refusing_both (table_rows t) rows table_refusing r

  -- an accepted table's slots sum to 48 at most
  pub sum_fits : TableAccepted t → slot_sum t.entries ≤ frame_slots
  unfolding table_rows
  sum_fits a = ltb-false frame_slots (slot_sum t.entries) (passed (table_rows t) tt a answer.Table)

  -- each of its entries with a combination is whole units
  pub units_whole : TableAccepted t → WholeUnits t.entries
  unfolding table_rows
  units_whole a = none_of part_unit t.entries (passed (table_rows t) tt a answer.PartUnit)

  -- and no reserved word has slots
  pub none_reserved : TableAccepted t → Each (λ e. reserved_word e ≡ false) t.entries
  unfolding table_rows
  none_reserved a = none_of reserved_word t.entries (passed (table_rows t) tt a answer.ReservedWord)

  -- rows after those of an accepted table decide, and not those after the rows of a refused one
  pub then_rows : (rows : List Row) → TableAccepted t → first_row (table_rows t ++ rows) ≡ first_row rows
  then_rows rows a = passed_above (table_rows t) rows table_refusing a

  pub before_rows : (rows : List Row) → (TableAccepted t → ⊥) → first_row (table_rows t ++ rows) ≡ table_answer t
  before_rows rows n = refused_above (table_rows t) rows n

  pub then_accepted : (rows : List Row) → first_row (table_rows t ++ rows) ≡ answer.Accepted → TableAccepted t × (first_row rows ≡ answer.Accepted)
  then_accepted rows e = both_passed (table_rows t) rows table_refusing e
