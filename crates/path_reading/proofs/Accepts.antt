-- Which rows hold, and what a reading of whole quadruples is.
use mathlib.Core.Path.{◌≡◌, refl, sym, ap, ◌∙◌}
use mathlib.Core.Bool.{Bool, true, false, not, ◌||◌}
use mathlib.Core.List.{List, []}
use Prim.Native.Nat.{ℕ, ◌+◌, ◌-◌, ◌*◌, ◌/◌, ◌%◌, ◌≤◌, ◌<◌}
use native.Mathlib.Omega.{arith}
use lib.IntN.{ℤ}
use lib.Dec.{T, eqb, ltb, lit≤, lit<}
use lib.ListN.{length, get_or}
use lib.Ieee.{Float, nan, binary32, fits}
use Rattle.refusal.specs.Rows.{first_row, Accepted, Sample, Space}
use Rattle.trellis.specs.Isdb
use Rattle.trellis.specs.Step.{four}
use Rattle.trellis.specs.Run.{block, quadruple, releases, four_steps, fresh_from}
use Rattle.path_greatest.specs.Paths.{longest, Quadruples, Reading}
use Rattle.path_greatest.proofs.Calls.{read_bits, isdb_given, isdb_unknown}
use Rattle.refusal.proofs.RowLaws as row
use Rattle.refusal.specs.RowLaws.{replaced}
use Rattle.refusal.proofs.RowLaws.{neither, neither_holds}
use borrow.Author.Tests.{ltb-false, lt-ltb, le-ltb}
use Rattle.isdb_fec.specs.Values.{some_beyond, stream_limit}
use Rattle.isdb_fec.specs.Rows.{push_metrics_rows, flush_rows, reading_rows}
use Rattle.isdb_fec.specs.Calls.{flush}
use Rattle.viterbi_core.specs.CountLaws.{counted, releases_le}
use Rattle.range_calls.specs.Reached.{Reached, with_state, unknown_state}
use Rattle.range_calls.proofs.Closed.{Fit, soft_fit, four_soft, values_inside, reached_fit, state_fit, traceback_fit}
use Rattle.range_calls.proofs.Answers.{stream_answer}
use Rattle.path_greatest.specs.declared.Start.{Start}
use Rattle.path_greatest.specs.declared.Start.TheVariants.{Given, Unknown}
use Rattle.path_greatest.specs.Fresh.{start_values, StartsIn}
use Rattle.range_calls.specs.MetricLaws.{metrics_inside}
use Rattle.path_reading.specs.Calls.{fresh, read, state_of}

-- ---- the start
start_reached : (start : Start) → Reached (fresh start)
start_reached (Given s) = with_state 128 s refl (record { values = refl; held_is = refl; traceback_is = refl })
start_reached Unknown = unknown_state 128 refl (record { values = refl; held_is = refl; traceback_is = refl })

-- ---- the rows of `push_metrics`
module _ (start : Start) (xs : List Float) where
  -- with a place for each bit they are those of the reading
  pub same_rows : (D O : ℕ) → length xs / 4 ≤ O → first_row (push_metrics_rows (fresh start) xs D O) ≡ first_row (reading_rows xs D O)
  same_rows D O h =
      let r = releases_le 128 0 (length xs / 4) (lit≤ tt) in
      stream_answer (start_reached start) 4 xs D O
      ∙ ap (λ (w : Bool). first_row (replaced Space (w || ltb D (block + 128)) (reading_rows xs D O))) (le-ltb O (block * releases 128 0 (length xs / 4)) (omega arith) ∙ sym (le-ltb O (length xs / 4) h))

  -- with too few they are those of `push_metrics` that is lent no decisions
  space_short : (D O : ℕ) → O < length xs / 4 → (ltb O (length xs / 4) || ltb D (block + 128)) ≡ true
  space_short D O h = rw (lt-ltb O (length xs / 4) h) refl

  pub short_rows : (D O : ℕ) → O < length xs / 4 → first_row (push_metrics_rows (fresh start) xs 0 O) ≡ first_row (reading_rows xs D O)
  short_rows D O h =
      stream_answer (start_reached start) 4 xs 0 O
      ∙ ap (λ (w : Bool). first_row (replaced Space w (reading_rows xs D O))) (second (ltb O (block * releases 128 0 (length xs / 4))) ∙ sym (space_short D O h))
    where
      second : (a : Bool) → (a || true) ≡ true
      second true = refl
      second false = refl

  pub short_refused : (D O : ℕ) → O < length xs / 4 → first_row (reading_rows xs D O) ≡ Accepted → ⊥
  short_refused D O h = row.holds (reading_rows xs D O) tt Space (space_short D O h)

  -- what an accepted reading tells
  record Passed (D O : ℕ) : Type 0 where
    sample : some_beyond stream_limit xs ≡ false
    places : length xs / 4 ≤ O
    words : block + 128 ≤ D

  passed : (D O : ℕ) → first_row (reading_rows xs D O) ≡ Accepted → Passed D O
  passed D O e =
      let p = row.passed (reading_rows xs D O) tt e in
      let q = neither (ltb O (length xs / 4)) (ltb D (block + 128)) (p Space) in
      record { sample = p Sample; places = ltb-false O (length xs / 4) q.0; words = ltb-false D (block + 128) q.1 }

  -- ---- the rows of `flush`: none holds
  module _ (fit : (i : ℕ) → T (fits binary32 (get_or xs i nan))) where
    abbrev n : ℕ
    n = length xs / 4

    read_fit : some_beyond stream_limit xs ≡ false → Fit (state_of (read start xs))
    read_fit e = soft_fit (reached_fit (start_reached start)) (four_steps xs) n (four_soft xs (values_inside xs fit e)) []

    pub flush_accepts : (D O : ℕ) → first_row (reading_rows xs D O) ≡ Accepted → first_row (flush_rows (state_of (read start xs)) D (O - length (read start xs).bits)) ≡ Accepted
    flush_accepts D O a =
        let p = passed D O a in
        let pl = p.places in
        let c = counted Isdb.half Isdb.labels Isdb.rule 128 (four_steps xs) (fresh_from (start_values Isdb.states start)) (lit≤ tt) (lit≤ tt) (lit< tt) n in
        let f = c.few in
        let wl = c.words_left in
        let bo = c.bits_out in
        let d = read start xs in
        let g = read_fit p.sample in
        row.none_accepted (flush_rows (state_of d) D (O - length d.bits))
        (traceback_fit g, (state_fit g, (neither_holds (ltb (O - length d.bits) (length d.words)) (ltb D (block + 128)) (le-ltb (O - length d.bits) (length d.words) (omega arith)) (le-ltb D (block + 128) p.words), tt)))

-- ---- whole quadruples
module _ (start : Start) (xs : List Float) (n : ℕ) (m : ℕ → ℕ → ℤ) (count : length xs ≡ 4 * n) (few : n ≤ longest) (quads : Quadruples (quadruple xs) m n) where
  in_fours : not (eqb (length xs % 4) 0) ≡ false
  in_fours = let e : length xs % 4 ≡ 0 = omega arith in rw e refl

  pub whole_accepts : (D O : ℕ) → block + 128 ≤ D → n ≤ O → first_row (reading_rows xs D O) ≡ Accepted
  whole_accepts D O h k =
      row.none_accepted (reading_rows xs D O)
      (in_fours, (metrics_inside xs n m count quads, (neither_holds (ltb O (length xs / 4)) (ltb D (block + 128)) (le-ltb O (length xs / 4) (omega arith)) (le-ltb D (block + 128) h), tt)))

  bits_are : (start : Start) → Reading Isdb.half Isdb.labels Isdb.rule (StartsIn Isdb.states start) m n (read_bits Isdb.half Isdb.labels Isdb.rule 128 (λ k. four (quadruple xs k)) (start_values Isdb.states start) n)
  bits_are (Given s) = isdb_given 128 (lit< tt) (quadruple xs) m n few quads s
  bits_are Unknown = isdb_unknown 128 (lit< tt) (quadruple xs) m n few quads

  pub reads : Reading Isdb.half Isdb.labels Isdb.rule (StartsIn Isdb.states start) m n (flush (read start xs)).bits
  reads = let e : length xs / 4 ≡ n = omega arith in rw e (bits_are start)
