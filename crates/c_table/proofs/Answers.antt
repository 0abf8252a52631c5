-- A call's number from its rows, row by row.
use mathlib.Core.Path.{◌≡◌, refl, sym, ◌∙◌, ap}
use mathlib.Core.Bool.{true}
use mathlib.Core.List.{List, [], ◌∷◌}
use Prim.Native.Nat.{ℕ, ◌*◌, ◌/◌, ◌%◌, ◌≤◌, ◌<◌}
use native.Mathlib.Omega.{arith}
use lib.Dec.{eqb, ltb}
use lib.ListN.{length, get_or}
use borrow.Author.Tests.{lt-ltb, le-ltb, eq-eqb}
use Rattle.refusal.specs.Rows.{Answer, number_of, accepted, Row, first_row}
use Rattle.refusal.specs.Rows as answer
use Rattle.refusal.proofs.RowLaws.{zero_accepted, said_some, said_none, accepted_by, refused_with, err_refuses}
use Rattle.isdbs_combination.specs.declared.Combination.{Combination}
use Rattle.std.specs.Prelude.{Option, Some, Result, Ok, Err}
use Rattle.refusal.specs.declared.Refusal.{Refusal}
use Rattle.isdbs_tables.specs.declared.Table.{Table}
use Rattle.isdbs_frame.specs.Answers.{position_said}
use Rattle.isdbs_marks.specs.declared.SlotMark.{SlotMark}
use Rattle.isdbs_plan.specs.declared.FrameRuns.{FrameRuns}
use Rattle.trellis.specs.ListLaws.{get_d_upto, padded_at}
use Rattle.trellis.specs.Lists.{padded}
use Rattle.isdbs_plan.specs.RunsOf.{runs_of, no_run, four_of, four_runs}
use Rattle.isdbs_plan.specs.RunLaws.{each_at}
use Rattle.isdbs_tables.specs.Tables.{slot_sum, table_answer, TableAccepted}
use Rattle.isdbs_marks.specs.Marks.{slot_marks, marks_of, mark, mark_at}
use Rattle.isdbs_tables.proofs.TableLaws.{sum_fits, then_rows, before_rows}
use Rattle.c_table.specs.Forms.{table_of, run_numbers, run_number}
use Rattle.c_table.proofs.Runs.{Small, small_number, runs_small, runs_count}
use Rattle.isdbs_core.specs.Symbols.{symbol_of_bit, bit_rows, bit_symbol}
use Rattle.c_answers.specs.Answers.{answered}
use Rattle.c_table.specs.Rows.{places_rows, is_none, symbol_or_zero}

-- ---- a call with a table that needs places

module _ (t : Table) (need space n : ℕ) (e : n ≡ number_of (table_answer t)) where
  abbrev places : List Row
  places = (answer.Space, ltb space need) ∷ []

  fits : n ≡ 0 → TableAccepted t
  fits z = zero_accepted (table_answer t) (sym e ∙ z)

  pub table_refused : (n ≡ 0 → ⊥) → n ≡ answered (places_rows t need space)
  table_refused h = e ∙ ap number_of (sym (before_rows t places (λ y. h (e ∙ ap number_of y))))

  pub table_fits : n ≡ 0 → slot_sum t.entries ≤ 48
  table_fits z = sum_fits t (fits z)

  pub table_short : n ≡ 0 → space < need → 9 ≡ answered (places_rows t need space)
  table_short z h = let q : first_row places ≡ answer.Space = rw (lt-ltb space need h) in sym (ap number_of (then_rows t places (fits z) ∙ q))

  pub table_enough : n ≡ 0 → need ≤ space → 0 ≡ answered (places_rows t need space)
  table_enough z h = let q : first_row places ≡ answer.Accepted = rw (le-ltb space need h) in sym (ap number_of (then_rows t places (fits z) ∙ q))

-- ---- a bit's symbol

module _ (word bit : ℕ) (m : Option Combination) (c : Combination) (r : Result ℕ Refusal) (em : m ≡ Some c) (er : position_said r ≡ bit_symbol c bit) where
  pub bit_found : (p : ℕ) → r ≡ Ok p → (0 ≡ answered ((answer.Position, is_none m) ∷ bit_rows bit)) × (p ≡ symbol_or_zero m bit)
  bit_found p ep =
      let s = said_some (first_row (bit_rows bit)) (symbol_of_bit c bit ∷ []) 0 p [] (sym (ap position_said ep) ∙ er) in
      rw em (sym (ap number_of s.0), sym (ap (λ (l : List ℕ). get_or l 0 0) s.2))

  pub bit_lost : (n : ℕ) (row : Refusal) → r ≡ Err row → n ≡ number_of (Err row) → (n ≡ answered ((answer.Position, is_none m) ∷ bit_rows bit)) × (n ≡ 0 → ⊥)
  bit_lost n row ea en =
      let s = said_none (first_row (bit_rows bit)) (symbol_of_bit c bit) [] (number_of (Err row)) (sym (ap position_said ea) ∙ er) in
      rw em (en ∙ s.0, λ z. s.1 (zero_accepted (first_row (bit_rows bit)) (sym (en ∙ s.0) ∙ z)))

-- ---- a refused table's number

pub not_zero : (row : Refusal) (n : ℕ) → n ≡ number_of (Err row) → n ≡ 0 → ⊥
not_zero row n e z = err_refuses (zero_accepted (Err row) (sym e ∙ z))

-- ---- the marks of a table

module _ (t : ℕ) (x : Table) (m : Result (List SlotMark) Refusal) (ex : x ≡ table_of t) (em : m ≡ slot_marks x) where
  whole : m ≡ slot_marks (table_of t)
  whole = em ∙ ap slot_marks ex

  pub marks_refused : (row : Refusal) (n : ℕ) → m ≡ Err row → n ≡ number_of (Err row) → n ≡ number_of (table_answer (table_of t))
  marks_refused row n e en = en ∙ ap number_of (refused_with (table_answer (table_of t)) (marks_of (table_of t)) row (sym e ∙ whole))

  module _ (ms : List SlotMark) (e : m ≡ Ok ms) where
    made : (table_answer (table_of t) ≡ answer.Accepted) × (ms ≡ marks_of (table_of t))
    made = accepted_by (table_answer (table_of t)) (marks_of (table_of t)) ms (sym e ∙ whole)

    pub marks_number : 0 ≡ number_of (table_answer (table_of t))
    marks_number = sym (ap number_of made.0)

    pub marks_at : (s : ℕ) (d : SlotMark) → s < 48 → get_or ms s d ≡ mark (mark_at (table_of t).entries s)
    marks_at s d h = rw made.1 (get_d_upto (λ k. mark (mark_at (table_of t).entries k)) d 48 s h)

-- ---- the runs of a table

module _ (t : ℕ) (x : Table) (m : Result FrameRuns Refusal) (ex : x ≡ table_of t) (em : m ≡ four_runs x) where
  all : m ≡ four_runs (table_of t)
  all = em ∙ ap four_runs ex

  pub runs_refused : (row : Refusal) (n : ℕ) → m ≡ Err row → n ≡ number_of (Err row) → n ≡ number_of (table_answer (table_of t))
  runs_refused row n e en = en ∙ ap number_of (refused_with (table_answer (table_of t)) (four_of (runs_of (table_of t))) row (sym e ∙ all))

  module _ (r : FrameRuns) (e : m ≡ Ok r) where
    taken : (table_answer (table_of t) ≡ answer.Accepted) × (r ≡ four_of (runs_of (table_of t)))
    taken = accepted_by (table_answer (table_of t)) (four_of (runs_of (table_of t))) r (sym e ∙ all)

    pub runs_number : 0 ≡ number_of (table_answer (table_of t))
    runs_number = sym (ap number_of taken.0)

    runs_are : r.runs ≡ padded 4 no_run (runs_of (table_of t))
    runs_are = ap (λ (y : FrameRuns). y.runs) taken.1

    pub count_is : r.count ≡ length (runs_of (table_of t))
    count_is = ap (λ (y : FrameRuns). y.count) taken.1

    pub count_most : r.count ≤ 4
    count_most = rw count_is (runs_count (table_of t).entries 0 0)

    module _ (i : ℕ) (h : i < 6 * r.count) where
      inside : i / 6 < length (runs_of (table_of t))
      inside = let e = count_is in omega arith

      pub number_at : get_or (run_numbers (get_or r.runs (i / 6) no_run)) (i % 6) 0 ≡ run_number (runs_of (table_of t)) i
      number_at = rw (runs_are, padded_at 4 no_run (runs_of (table_of t)) (i / 6) inside)

      pub number_small : run_number (runs_of (table_of t)) i ≤ 38976
      number_small =
          let f = table_fits (table_of t) 0 0 0 runs_number refl in
          small_number (get_or (runs_of (table_of t)) (i / 6) no_run)
          (each_at Small (runs_of (table_of t)) no_run (i / 6) (runs_small (table_of t).entries 0 0 (omega arith) (omega arith)) inside)
          (i % 6)
