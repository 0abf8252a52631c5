-- The rows of `quality` one after the other, and what an accepted call may rest on.
use mathlib.Core.Path.{◌≡◌}
use mathlib.Core.List.{List}
use Prim.Native.Nat.{ℕ, ◌≤◌}
use lib.Dec.{ltb}
use lib.ListN.{length}
use lib.Ieee.{Float}
use borrow.Author.Tests.{ltb-false}
use Rattle.refusal.specs.Rows.{first_row, Answer, Accepted, Symbols, Space}
use Rattle.refusal.proofs.RowLaws as row
use Rattle.refusal.proofs.RowLaws.{neither, refused_by, passed_by}
use Rattle.isdbs_frame.specs.Frame.{main_symbols}
use Rattle.isdbs_tables.specs.declared.Table.{Table}
use Rattle.isdbs_tables.specs.Tables.{table_rows, table_answer, TableAccepted}
use Rattle.isdbs_tables.proofs.TableLaws.{table_refusing, then_accepted}
use Rattle.isdbs_plan.specs.RunsOf.{load_bytes}
use Rattle.quality_sums.specs.Terms.{quality_numbers}
use Rattle.quality.specs.Rows.{lent_rows, quality_rows}

module _ (t : Table) (bytes : ℕ) (re im : List Float) (room : ℕ) where
  -- the table refuses; or it passes and what is lent decides
  pub by_table : (a : Answer) → a ≡ table_answer t → (a ≡ Accepted → ⊥) → a ≡ first_row (quality_rows t bytes re im room)
  by_table a e n = refused_by (table_rows t) (lent_rows (load_bytes t) bytes re im room) a e n

  pub by_lent : {a : Answer} → Accepted ≡ table_answer t → a ≡ first_row (lent_rows (load_bytes t) bytes re im room) → a ≡ first_row (quality_rows t bytes re im room)
  by_lent fit e = passed_by (table_rows t) (lent_rows (load_bytes t) bytes re im room) (table_refusing t) fit e

  pub record Passed : Type 0 where
    pub table : TableAccepted t
    pub real : main_symbols ≤ length re
    pub imaginary : main_symbols ≤ length im
    pub space : quality_numbers ≤ room

  pub passed : first_row (quality_rows t bytes re im room) ≡ Accepted → Passed
  passed h =
      let b = then_accepted t (lent_rows (load_bytes t) bytes re im room) h in
      let p = row.passed (lent_rows (load_bytes t) bytes re im room) tt b.1 in
      let s = neither (ltb (length re) main_symbols) (ltb (length im) main_symbols) (p Symbols) in
      record {
        table = b.0;
        real = ltb-false (length re) main_symbols s.0;
        imaginary = ltb-false (length im) main_symbols s.1;
        space = ltb-false room quality_numbers (p Space);
      }
