-- The rows of `judge` one after the other.
use mathlib.Core.Path.{◌≡◌}
use mathlib.Core.List.{List}
use Prim.Native.Nat.{ℕ}
use lib.Ieee.{Float}
use Rattle.refusal.specs.Rows.{first_row, Answer, Accepted}
use Rattle.refusal.proofs.RowLaws.{refused_by, passed_by}
use Rattle.isdbs_tables.specs.declared.Table.{Table}
use Rattle.isdbs_tables.specs.Tables.{table_rows, table_answer}
use Rattle.isdbs_tables.proofs.TableLaws.{table_refusing}
use Rattle.isdbs_plan.specs.RunsOf.{load_bytes}
use Rattle.judge.specs.Rows.{lent_rows, judge_rows}

module _ (t : Table) (bytes : ℕ) (re im : List Float) (counts : ℕ) where
  -- the table refuses; or it passes and what is lent decides
  pub by_table : (a : Answer) → a ≡ table_answer t → (a ≡ Accepted → ⊥) → a ≡ first_row (judge_rows t bytes re im counts)
  by_table a e n = refused_by (table_rows t) (lent_rows (load_bytes t) bytes re im counts) a e n

  pub by_lent : {a : Answer} → Accepted ≡ table_answer t → a ≡ first_row (lent_rows (load_bytes t) bytes re im counts) → a ≡ first_row (judge_rows t bytes re im counts)
  by_lent fit e = passed_by (table_rows t) (lent_rows (load_bytes t) bytes re im counts) (table_refusing t) fit e
