-- What a passed row of `decode_frame` tells.
use mathlib.Core.Path.{◌≡◌, sym}
use mathlib.Core.Bool.{Bool, ◌||◌}
use mathlib.Core.List.{List, ◌++◌}
use Prim.Native.Nat.{ℕ, ◌+◌, ◌≤◌}
use lib.Dec.{ltb}
use lib.ListN.{length}
use lib.Ieee.{Float}
use borrow.Author.Tests.{ltb-false}
use Rattle.refusal.specs.Rows.{Row, first_row, Answer, Accepted, Symbols, Space}
use Rattle.refusal.proofs.RowLaws as row
use Rattle.refusal.proofs.RowLaws.{neither, is_refused, err_refuses}
use Rattle.std.specs.Prelude.{Err}
use Rattle.refusal.specs.declared.Refusal.{Refusal}
use Rattle.isdbs_tables.specs.declared.Table.{Table}
use Rattle.isdbs_tables.specs.Tables.{TableAccepted}
use Rattle.isdbs_tables.proofs.TableLaws.{then_accepted}
use Rattle.isdbs_frame.specs.Frame.{main_symbols}
use Rattle.isdbs_plan.specs.RunsOf.{valid_total, frame_steps, load_bytes}
use Rattle.trellis.specs.Isdb.{frame_words}
use Rattle.isdbs_phy.specs.DecodeRows.{point_rows, last_rows, frame_rows, frame_said, frame_answer}

-- what an accepted call may rest on
pub record Passed (t : Table) (re im : List Float) (decisions bits bytes counts : ℕ) : Type 0 where
  pub table : TableAccepted t
  pub real : main_symbols ≤ length re
  pub imaginary : main_symbols ≤ length im
  pub words : frame_words ≤ decisions
  pub places : frame_steps t + 16 ≤ bits
  pub room : load_bytes t ≤ bytes
  pub slots : valid_total t ≤ counts

module _ (t : Table) (re im : List Float) (bad : Bool) (decisions bits bytes counts : ℕ) where
  abbrev last : List Row
  last = last_rows t bad decisions bits bytes counts

  pub passed : Accepted ≡ first_row (frame_rows t re im bad decisions bits bytes counts) → Passed t re im decisions bits bytes counts
  passed h =
      let b = then_accepted t (point_rows re im ++ last) (sym h) in
      let p = row.passed (point_rows re im ++ last) tt b.1 in
      let s = neither (ltb (length re) main_symbols) (ltb (length im) main_symbols) (p Symbols) in
      let q = neither (ltb decisions frame_words) (ltb bits (frame_steps t + 16) || (ltb bytes (load_bytes t) || ltb counts (valid_total t))) (p Space) in
      let r = neither (ltb bits (frame_steps t + 16)) (ltb bytes (load_bytes t) || ltb counts (valid_total t)) q.1 in
      let v = neither (ltb bytes (load_bytes t)) (ltb counts (valid_total t)) r.1 in
      record {
        table = b.0;
        real = ltb-false (length re) main_symbols s.0;
        imaginary = ltb-false (length im) main_symbols s.1;
        words = ltb-false decisions frame_words q.0;
        places = ltb-false bits (frame_steps t + 16) r.0;
        room = ltb-false bytes (load_bytes t) v.0;
        slots = ltb-false counts (valid_total t) v.1;
      }

-- a refusal's answer
pub refused_answer : (row : Refusal) (t : Table) (sum : ℕ) → frame_said (Err row) ≡ frame_answer (Err row) t sum
refused_answer row t sum = rw (is_refused (Err row) err_refuses)
