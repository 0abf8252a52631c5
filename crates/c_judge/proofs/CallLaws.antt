-- The C call's contract follows from the library's.
use mathlib.Core.Path.{◌≡◌, refl, sym, ◌∙◌, ap}
use mathlib.Core.Bool.{Bool}
use mathlib.Core.List.{List, [], ◌∷◌}
use Prim.Native.Nat.{ℕ}
use lib.ListN.{length, get_or}
use lib.Ieee.{Float}
use Rattle.trellis.specs.Lists.{laid}
use Rattle.refusal.specs.Rows.{Answer, number_of, first_row, Either}
use Rattle.refusal.proofs.RowLaws.{zero_accepted, said_some, said_none}
use Rattle.isdbs_tables.specs.declared.Table.{Table}
use Rattle.isdbs_points.specs.declared.Mapping.{Mapping}
use Rattle.judge_points.specs.Outside.{outside_counts, outside_sum}
use Rattle.c_answers.specs.Answers.{answered, left}
use Rattle.c_answers.specs.AnswerLaws.{kept}
use Rattle.std.specs.Prelude.{Result, Ok, Err}
use Rattle.refusal.specs.declared.Refusal.{Refusal}
use Rattle.judge.specs.Rows.{judge_rows}
use Rattle.judge.specs.Judged.{judged_said, judged_answer, Worth}
use Rattle.c_judge.specs.Calls.{sum_of, WorthC}

module _ (re im : List Float) (load : List ℕ) (t : Table) (m : Mapping) (first : Bool) (counts₀ counts : List ℕ) (s₀ : ℕ) where
  abbrev a : Answer
  a = first_row (judge_rows t (length load) re im (length counts₀))

  abbrev new : List ℕ
  new = laid (outside_counts re im load t m first) counts₀

  abbrev total : ℕ
  total = outside_sum re im load t m first

  -- the clauses of the C call
  abbrev CallC : ℕ → ℕ → Type 0
  CallC r s =
      (r ≡ answered (judge_rows t (length load) re im (length counts₀)))
      × ((counts ≡ left r (laid (outside_counts re im load t m first) counts₀) counts₀) × ((s ≡ left r (outside_sum re im load t m first) s₀) × WorthC re im load t m first r s))

  pub judged_c : (f : Result ℕ Refusal) (r s : ℕ) → r ≡ (judged_said f).0 → s ≡ sum_of f s₀ → judged_said f ≡ judged_answer re im load t m first (length counts₀)
      → Either a (counts ≡ laid (outside_counts re im load t m first) counts₀) (counts ≡ counts₀) → Worth re im load t m first f → CallC r s
  judged_c (Ok n) r s e es says leaves worth =
      let x = said_some a (total ∷ []) 0 n [] says in
      let n-is : total ≡ n = ap (λ (l : List ℕ). get_or l 0 0) x.2 in (
        e ∙ ap number_of (sym x.0),
        (
          rw e (leaves.0 x.0),
          (
            rw e (es ∙ sym n-is),
            record {
              certain = λ z q. worth.certain (ap (λ (k : ℕ). Ok k) (sym es ∙ q));
              doubtful = λ z q w. worth.doubtful n refl (λ h. q (es ∙ h)) w;
            },
          ),
        ),
      )
  judged_c (Err x) r s e es says leaves worth =
      let y = said_none a total [] (number_of (Err x)) says in
      let h : r ≡ 0 → ⊥ = λ z. y.1 (zero_accepted a (sym (e ∙ y.0) ∙ z)) in (
        e ∙ y.0,
        (leaves.1 y.1 ∙ kept r new counts₀ h, (es ∙ kept r total s₀ h, record { certain = λ z. absurd (h z); doubtful = λ z. absurd (h z) })),
      )
