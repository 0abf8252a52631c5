-- `short_best::greatest_sum_reading` meets its contract.
use mathlib.Core.Path.{◌≡◌, refl, sym, ◌∙◌}
use mathlib.Core.Bool.{true}
use Prim.Native.Nat.{ℕ, ◌-◌, ◌*◌, ◌/◌, ◌≤◌}
use mathlib.Core.List.{List}
use native.Mathlib.Omega.{arith}
use borrow.Author.Tests.{ltb-false, not-false}
use lib.Dec.{ltb}
use lib.ListN.{length, replicate, length-replicate}
use lib.Seq.{length-take-le}
use lib.Ieee.{Float, binary32, of_bits}
use Rattle.std.specs.Prelude.{Ok, Err}
use Rattle.std.proofs.lemmas.Result.{err_from_is_err_and}
use Rattle.refusal.specs.Rows.{first_row}
use Rattle.refusal.proofs.RowLaws.{passed, neither}
use Rattle.refusal.specs.Rows as answer
use Rattle.short_code.specs.declared.Code.{Code}
use Rattle.short_code.specs.Codes.{good_code}
use Rattle.short_code.specs.CodeLaws.{good_length_lem}
use Rattle.short_best.specs.Readings.{reading_rows, Refused}
use Rattle.path_greatest.specs.declared.Start.{Start}
use Rattle.short_best.specs.BestLaws.{greatest_sum}
use Rattle.short_best.proofs.greatest_sum_reading.Goals as goal

-- what an accepted reading has
record Enough (c : Code) (n decisions out : ℕ) : Type 0 where
  good : good_code c ≡ true
  words : 4224 ≤ decisions
  places : n ≤ out

enough : (c : Code) (xs : List Float) (decisions out : ℕ) → answer.Accepted ≡ first_row (reading_rows c xs decisions out) → Enough c (length xs / 4) decisions out
enough c xs decisions out e =
    let p = passed (reading_rows c xs decisions out) tt (sym e) in
    let s = neither (ltb out (length xs / 4)) (ltb decisions 4224) (p answer.Space) in
    record { good = not-false (good_code c) (p answer.Code); words = ltb-false decisions 4224 s.1; places = ltb-false out (length xs / 4) s.0 }

pub returns-in_err-answer_reading : goal.returns-in_err-answer_reading
returns-in_err-answer_reading c =
    let a = c.args in
    let p = err_from_is_err_and c.from_residual.result c.from_residual.ensures.1 in
    let e = sym c.in_err-answer_reading.was ∙ c.answer_reading.ensures in
    let l : Refused a.decisions.now a.decisions.now a.out.now a.out.now = record { words = refl; bits = refl } in
    rw (p.1, p.2) (record { answers = e; leaves = l; greatest = greatest_sum a.code a.start a.metrics.now (Err _) a.decisions.now _ a.out.now _ e l })

pub half-h-requires : goal.half-h-requires
half-h-requires c =
    let a = c.args in
    let e = enough a.code a.metrics.now (length a.decisions.now) (length a.out.now) (sym c.in_ok-answer_reading.was ∙ c.answer_reading.ensures) in
    good_length_lem a.code e.good

pub run-count-requires : goal.run-count-requires
run-count-requires c =
    let t = c in
    let a = t.args in
    let e = enough a.code a.metrics.now (length a.decisions.now) (length a.out.now) (sym t.in_ok-answer_reading.was ∙ t.answer_reading.ensures) in
    let half = c.half-h in
    let most = half.ensures.1 in
    let long = length-replicate 64 (of_bits binary32 0) in
    (half.ensures.0, most, half.ensures.2, length-take-le (2 * half.result - 0) (replicate 64 (of_bits binary32 0)) (omega arith) ∙ omega arith, e.words, e.places)

pub returns : goal.returns
returns c =
    let at-run = c in
    let t = at-run in
    let answer-reading = t in
    let start = answer-reading in
    let a = start.args in
    let run = at-run.run-count in
    let e = sym t.in_ok-answer_reading.was ∙ answer-reading.answer_reading.ensures in
    record { answers = e; leaves = run.ensures; greatest = greatest_sum a.code a.start a.metrics.now (Ok run.result) a.decisions.now run.new.decisions a.out.now run.new.out e run.ensures }
