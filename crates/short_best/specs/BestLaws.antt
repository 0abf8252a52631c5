-- A reading of whole quadruples is accepted, and its bits are the inputs of the first path of greatest sum.
use Rattle.std.specs.Prelude.{◌≡◌, refl, true, false, List, ℕ, ◌+◌, ◌*◌, ◌/◌, ◌%◌, ◌≤◌, ℤ, eqb, ltb, length, take, Float, Result, Ok, Err, MatchResult}
use Rattle.std.proofs.Common.{sym, ap, ◌∙◌, subst, arith, le-ltb, eq-eqb, lit<}
use Rattle.refusal.specs.declared.Refusal.{Refusal}
use Rattle.refusal.specs.Rows.{first_row, answer_of}
use Rattle.refusal.proofs.RowLaws.{err_refuses}
use Rattle.refusal.specs.Rows as answer
use Rattle.trellis.specs.Isdb.{rule, frame_traceback}
use Rattle.trellis.specs.Lists.{laid}
use Rattle.trellis.specs.Step.{four}
use Rattle.trellis.specs.Run.{block, quadruple}
use Rattle.trellis.specs.LaidLaws.{take_laid}
use Rattle.path_greatest.specs.Paths.{longest, Quadruples, Reading}
use Rattle.path_greatest.proofs.Calls as best-path
use Rattle.path_greatest.proofs.Calls.{code_start}
use Rattle.short_code.specs.declared.Code.{Code}
use Rattle.short_code.specs.Codes.{code_of, labels, half_of, states_of, good_code}
use Rattle.short_code.specs.CodeLaws.{good_states}
use Rattle.range_calls.specs.MetricLaws.{metrics_inside}
use Rattle.path_greatest.specs.declared.Start.{Start}
use Rattle.path_greatest.specs.Fresh.{start_values, StartsIn}
use Rattle.short_best.specs.Readings.{read_bits, reading_rows, Finished, Refused, GreatestSum}

module _ (c : Code) (xs : List Float) (n : ℕ) (m : ℕ → ℕ → ℤ) (good : good_code c ≡ true) (count : length xs ≡ 4 * n) (few : n ≤ longest) (quads : Quadruples (quadruple xs) m n) where
  pub accepts : (decisions space : ℕ) → block + frame_traceback ≤ decisions → n ≤ space → first_row (reading_rows c xs decisions space) ≡ answer.Accepted
  accepts decisions space h k =
      let whole : eqb (length xs % 4) 0 ≡ true = eq-eqb (length xs % 4) 0 (omega arith) in
      let out : ltb space (length xs / 4) ≡ false = le-ltb space (length xs / 4) (omega arith) in
      rw (good, whole, metrics_inside xs n m count quads, out, le-ltb decisions (block + frame_traceback) h) refl

  abbrev bits_from : List Float → List ℕ
  bits_from pm = best-path.read_bits (half_of c) (labels c) rule frame_traceback (λ k. four (quadruple xs k)) pm n

  bits_are : (start : Start) → Reading (half_of c) (labels c) rule (StartsIn (states_of c) start) m n (bits_from (start_values (states_of c) start))
  bits_are start =
      subst (λ (k : ℕ). Reading (half_of c) (labels c) rule (StartsIn k start) m n (bits_from (start_values k start))) (good_states c good) (code_start (code_of c) rule frame_traceback (lit< tt) (quadruple xs) m n few quads start)

  pub reads : (start : Start) → Reading (half_of c) (labels c) rule (StartsIn (states_of c) start) m n (read_bits c start xs)
  reads start = let e : length xs / 4 ≡ n = omega arith in rw e (bits_are start)

-- what a call promises whose answer and leavings are those of a reading
pub greatest_sum : (c : Code) (start : Start) (xs : List Float) (r : Result ℕ Refusal) (dec₀ dec out₀ out : List ℕ)
    → answer_of r ≡ first_row (reading_rows c xs (length dec₀) (length out₀))
    → MatchResult r (λ count. Finished c start xs count dec₀ dec out₀ out) (λ _. Refused dec₀ dec out₀ out)
    → GreatestSum c start xs r (length dec₀) (length out₀) out
greatest_sum c start xs (Err row) dec₀ dec out₀ out a l n m good count few quads hd ho = absurd (err_refuses {row = row} (a ∙ accepts c xs n m good count few quads (length dec₀) (length out₀) hd ho))
greatest_sum c start xs (Ok bits) dec₀ dec out₀ out a g n m good count few quads hd ho =
    let b = reads c xs n m good count few quads start in
    let k : length (read_bits c start xs) ≡ n = b.best.path.count in
    let t : take n out ≡ read_bits c start xs = ap (λ (x : List ℕ). take n x) g.bits ∙ ap (λ (j : ℕ). take j (laid (read_bits c start xs) out₀)) (sym k) ∙ take_laid (read_bits c start xs) out₀ in
    let whole : bits ≡ n = g.count_is ∙ omega arith in
    (ap (λ (j : ℕ). Ok j) whole, subst (λ (x : List ℕ). Reading (half_of c) (labels c) rule (StartsIn (states_of c) start) m n x) (sym t) b)
