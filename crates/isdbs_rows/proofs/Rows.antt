-- The rows of `decode_frame` one after the other.
use mathlib.Core.Path.{◌≡◌, sym, ap}
use mathlib.Core.Bool.{Bool, ◌||◌}
use mathlib.Core.List.{List, ◌++◌}
use Prim.Native.Nat.{ℕ, suc, ◌+◌}
use native.Mathlib.Omega.{arith}
use lib.ListN.{get_or}
use lib.Ieee.{Float, nan}
use Rattle.refusal.specs.Rows.{Row, first_row, Answer, Accepted}
use Rattle.refusal.proofs.RowLaws.{refused_by, passed_by}
use Rattle.isdbs_tables.specs.declared.Table.{Table}
use Rattle.isdbs_tables.specs.Tables.{table_rows, table_answer}
use Rattle.isdbs_tables.proofs.TableLaws.{table_refusing}
use Rattle.isdbs_rows.specs.DecodeRows.{some_of, point_rows, last_rows, frame_rows}

-- one value more
pub some_more : (bad : Float → Bool) (xs : List Float) (i : ℕ) (some b : Bool) → some ≡ some_of bad xs i → b ≡ bad (get_or xs i nan) → (some || b) ≡ some_of bad xs (i + 1)
unfolding some_of
some_more bad xs i some b h e =
    let q : i + 1 ≡ suc i = omega arith in
    rw (h, e) (sym (ap (λ (k : ℕ). some_of bad xs k) q))

module _ (t : Table) (re im : List Float) (bad : Bool) (decisions bits bytes counts : ℕ) where
  abbrev last : List Row
  last = last_rows t bad decisions bits bytes counts

  -- the table refuses; or it passes and the points refuse; or both pass
  pub by_table : (a : Answer) → a ≡ table_answer t → (a ≡ Accepted → ⊥) → a ≡ first_row (frame_rows t re im bad decisions bits bytes counts)
  by_table a e n = refused_by (table_rows t) (point_rows re im ++ last) a e n

  module _ (fit : Accepted ≡ table_answer t) where
    pub by_points : (a : Answer) → a ≡ first_row (point_rows re im) → (a ≡ Accepted → ⊥) → a ≡ first_row (frame_rows t re im bad decisions bits bytes counts)
    by_points a e n = passed_by (table_rows t) (point_rows re im ++ last) (table_refusing t) fit (refused_by (point_rows re im) last a e n)

    pub by_last : {a : Answer} → Accepted ≡ first_row (point_rows re im) → a ≡ first_row (last_rows t bad decisions bits bytes counts) → a ≡ first_row (frame_rows t re im bad decisions bits bytes counts)
    by_last p e = passed_by (table_rows t) (point_rows re im ++ last) (table_refusing t) fit (passed_by (point_rows re im) last tt p e)
