-- What an accepted call is worth, from its rows and its sum.
use mathlib.Core.Path.{◌≡◌, sym, ◌∙◌}
use mathlib.Core.Bool.{Bool}
use mathlib.Core.List.{List}
use Prim.Native.Nat.{ℕ, ◌<◌, ◌≤◌}
use native.Mathlib.Omega.{arith}
use lib.Dec.{eqb, ltb}
use lib.ListN.{length, get_or}
use lib.Ieee.{Float}
use borrow.Author.Tests.{ltb-false, eqb-true, not-false}
use Rattle.refusal.specs.Rows.{Answer, Accepted, Length, Symbols, Space, first_row}
use Rattle.refusal.proofs.RowLaws as row
use Rattle.refusal.proofs.RowLaws.{neither}
use Rattle.isdbs_tables.specs.declared.Table.{Table}
use Rattle.isdbs_frame.specs.Frame.{main_symbols}
use Rattle.isdbs_combination.specs.Combinations.{frame_slots}
use Rattle.isdbs_tables.specs.Tables.{TableAccepted}
use Rattle.isdbs_tables.proofs.TableLaws.{then_accepted}
use Rattle.isdbs_plan.specs.RunsOf.{load_bytes}
use Rattle.isdbs_points.specs.declared.Mapping.{Mapping}
use Rattle.isdbs_points.specs.Layout.{FullLoad}
use Rattle.judge_points.specs.Outside.{outside_sum}
use Rattle.judge_points.proofs.OutsideLaws.{sum_zero_within, within_sum_zero}
use Rattle.judge_points.proofs.CertainLaws.{certain}
use Rattle.judge.specs.Rows.{lent_rows, judge_rows}
use Rattle.judge.specs.Judged.{Worth}
use Rattle.std.specs.Prelude.{Ok, Err}
use Rattle.refusal.specs.declared.Refusal.{Refusal}

-- what an accepted call may rest on
pub record Passed (t : Table) (bytes : ℕ) (re im : List Float) (counts : ℕ) : Type 0 where
  pub table : TableAccepted t
  pub whole : bytes ≡ load_bytes t
  pub real : main_symbols ≤ length re
  pub imaginary : main_symbols ≤ length im
  pub room : frame_slots ≤ counts

pub passed : (t : Table) (bytes : ℕ) (re im : List Float) (counts : ℕ) → first_row (judge_rows t bytes re im counts) ≡ Accepted → Passed t bytes re im counts
passed t bytes re im counts h =
    let b = then_accepted t (lent_rows (load_bytes t) bytes re im counts) h in
    let p = row.passed (lent_rows (load_bytes t) bytes re im counts) tt b.1 in
    let s = neither (ltb (length re) main_symbols) (ltb (length im) main_symbols) (p Symbols) in
    record {
      table = b.0;
      whole = eqb-true bytes (load_bytes t) (not-false (eqb bytes (load_bytes t)) (p Length));
      real = ltb-false (length re) main_symbols s.0;
      imaginary = ltb-false (length im) main_symbols s.1;
      room = ltb-false counts frame_slots (p Space);
    }

module _ (re im : List Float) (load : List ℕ) (t : Table) (m : Mapping) (first : Bool) where
  -- a refusal promises nothing
  pub refused_worth : (row : Refusal) → Worth re im load t m first (Err row)
  refused_worth row =
      record {
        certain = λ q. absurd (let z : ◌≡◌ {A = ℕ} 0 1 = cc in omega arith);
        doubtful = λ n q h w. let z : ◌≡◌ {A = ℕ} 0 1 = cc in omega arith;
      }

  -- an accepted call: its bytes are bytes, and its sum is that of the points outside
  pub judged_worth : (counts sum : ℕ) → Passed t (length load) re im counts → ((k : ℕ) → get_or load k 0 < 256) → sum ≡ outside_sum re im load t m first → Worth re im load t m first (Ok sum)
  judged_worth counts sum p small e =
      let full : FullLoad load (load_bytes t) = record { size = p.whole; bytes = λ k l. small k } in
      record {
        certain = λ q.
            let z : outside_sum re im load t m first ≡ 0 = sym e ∙ (let x : sum ≡ 0 = cc in x) in
            record { within = sum_zero_within re im load t m first p.real p.imaginary z; only = certain t p.table m first load full re im p.real p.imaginary z };
        doubtful = λ n q z w. z (let x : sum ≡ n = cc in sym x ∙ e ∙ within_sum_zero re im load t m first w);
      }
