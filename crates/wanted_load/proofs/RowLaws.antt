-- The rows of `wanted_load` one after the other, and what passed rows tell.
use mathlib.Core.Path.{◌≡◌, refl, sym}
use mathlib.Core.Bool.{Bool, true, false, ◌||◌}
use mathlib.Core.List.{List}
use Prim.Native.Nat.{ℕ, ◌≤◌}
use lib.Dec.{ltb}
use lib.ListN.{length}
use borrow.Author.Tests.{ltb-false}
use Rattle.refusal.specs.Rows.{first_row, Answer, Accepted, Symbols, Space}
use Rattle.refusal.proofs.RowLaws as row
use Rattle.refusal.proofs.RowLaws.{neither, refused_by, passed_by}
use Rattle.isdbs_tables.specs.declared.Table.{Table}
use Rattle.isdbs_frame.specs.Frame.{main_symbols}
use Rattle.isdbs_tables.specs.Tables.{table_rows, table_answer, TableAccepted}
use Rattle.isdbs_tables.proofs.TableLaws.{table_refusing, then_accepted}
use Rattle.isdbs_plan.specs.RunsOf.{load_bytes}
use Rattle.wanted_load.specs.Rows.{lent_rows, earlier_rows}

pub or_second : (a b : Bool) → b ≡ true → (a || b) ≡ true
or_second true b e = refl
or_second false b e = e

-- what an accepted call may rest on
pub record Passed (t : Table) (re im bytes : ℕ) : Type 0 where
  pub table : TableAccepted t
  pub real : main_symbols ≤ re
  pub imaginary : main_symbols ≤ im
  pub room : load_bytes t ≤ bytes

module _ (t : Table) (re im bytes : ℕ) where
  -- the table refuses; or it passes and the lengths decide
  pub by_table : (a : Answer) → a ≡ table_answer t → (a ≡ Accepted → ⊥) → a ≡ first_row (earlier_rows t re im bytes)
  by_table a e n = refused_by (table_rows t) (lent_rows (load_bytes t) re im bytes) a e n

  pub by_lengths : {a : Answer} → Accepted ≡ table_answer t → a ≡ first_row (lent_rows (load_bytes t) re im bytes) → a ≡ first_row (earlier_rows t re im bytes)
  by_lengths fit e = passed_by (table_rows t) (lent_rows (load_bytes t) re im bytes) (table_refusing t) fit e

  pub passed : Accepted ≡ first_row (earlier_rows t re im bytes) → Passed t re im bytes
  passed h =
      let b = then_accepted t (lent_rows (load_bytes t) re im bytes) (sym h) in
      let p = row.passed (lent_rows (load_bytes t) re im bytes) tt b.1 in
      let s = neither (ltb re main_symbols) (ltb im main_symbols) (p Symbols) in
      record {
        table = b.0;
        real = ltb-false re main_symbols s.0;
        imaginary = ltb-false im main_symbols s.1;
        room = ltb-false bytes (load_bytes t) (p Space);
      }
