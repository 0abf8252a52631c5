-- The C call's contract follows from the library's.
use mathlib.Core.Path.{◌≡◌, sym, ◌∙◌, ap}
use mathlib.Core.List.{List, ◌++◌}
use Prim.Native.Nat.{ℕ}
use lib.ListN.{length}
use lib.Ieee.{Float}
use Rattle.refusal.specs.Rows.{Answer, Row, number_of, first_row, Either}
use Rattle.refusal.proofs.RowLaws.{zero_accepted}
use Rattle.isdbs_tables.specs.declared.Table.{Table}
use Rattle.isdbs_tables.specs.Tables.{table_rows}
use Rattle.isdbs_tables.proofs.TableLaws.{table_refusing}
use Rattle.c_answers.specs.Answers.{answered}
use Rattle.c_answers.specs.Lengths.{until_length}
use Rattle.c_answers.proofs.LengthLaws.{until_refuses}
use Rattle.c_scales.specs.Scales.{with_scales}
use Rattle.c_scales.specs.ScaleLaws.{seven_rows, not_seven}

-- what a C call leaves by its number: one thing where it is 0, another where it is a row's
abbrev By : ℕ → Type 0 → Type 0 → Type 0
By n done kept = (n ≡ 0 → done) × ((n ≡ 0 → ⊥) → kept)

module _ (t : Table) (scales : List Float) (rest : List Row) {P Q : Type 0} where
  -- seven scales: the library's answer, by its number
  pub seven_c : length scales ≡ 7 → (a : Answer) (n : ℕ) → n ≡ number_of a → a ≡ first_row (table_rows t ++ rest) → Either a P Q → (n ≡ answered (with_scales t scales rest)) × By n P Q
  seven_c h a n e f l =
      (e ∙ ap number_of (f ∙ sym (seven_rows t scales rest h)), ((λ z. l.0 (zero_accepted a (sym e ∙ z))), (λ z. l.1 (λ q. z (e ∙ ap number_of q)))))

  -- not seven: refused, and nothing is changed
  pub other_c : (length scales ≡ 7 → ⊥) → (n : ℕ) → n ≡ answered (until_length (table_rows t)) → Q → (n ≡ answered (with_scales t scales rest)) × By n P Q
  other_c h n e q =
      (e ∙ ap number_of (sym (not_seven t scales rest h)), ((λ z. absurd (until_refuses (table_rows t) (table_refusing t) n e z)), (λ z. q)))
