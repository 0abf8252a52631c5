-- What a call of `judge` promises, refused and accepted.
use mathlib.Core.Path.{◌≡◌, refl, sym, ◌∙◌, ap}
use mathlib.Core.Bool.{Bool}
use mathlib.Core.List.{List, [], ◌∷◌}
use Prim.Native.Nat.{ℕ, ◌<◌}
use lib.ListN.{length, get_or}
use lib.Ieee.{Float}
use Rattle.trellis.specs.Lists.{laid}
use Rattle.refusal.specs.Rows.{Answer, Accepted, first_row, Either, says}
use Rattle.refusal.proofs.RowLaws as row
use Rattle.refusal.proofs.RowLaws.{is_refused, err_refuses}
use Rattle.isdbs_tables.specs.declared.Table.{Table}
use Rattle.isdbs_points.specs.declared.Mapping.{Mapping}
use Rattle.judge_points.specs.Outside.{outside_counts, outside_sum}
use Rattle.std.specs.Prelude.{Result, Ok, Err}
use Rattle.refusal.specs.declared.Refusal.{Refusal}
use Rattle.judge.specs.Rows.{judge_rows}
use Rattle.judge.specs.Judged.{judged_said, judged_answer, CountsLaid, Worth}
use Rattle.judge.proofs.JudgedLaws.{passed, refused_worth, judged_worth}

module _ (re im : List Float) (load : List ℕ) (t : Table) (m : Mapping) (first : Bool) (counts₀ : List ℕ) where
  abbrev answer : Answer
  answer = first_row (judge_rows t (length load) re im (length counts₀))

  -- the clauses of the contract
  abbrev pub Call : List ℕ → Result ℕ Refusal → Type 0
  Call counts r =
      (judged_said r ≡ judged_answer re im load t m first (length counts₀))
      × (Either answer (counts ≡ laid (outside_counts re im load t m first) counts₀) (counts ≡ counts₀)
      × Worth re im load t m first r)

  abbrev values : List ℕ
  values = outside_sum re im load t m first ∷ []

  pub refused : (x : Refusal) → Err x ≡ answer → Call counts₀ (Err x)
  refused x e = (
    (rw (is_refused (Err x) err_refuses)) ∙ ap (λ (z : Answer). says z values) e,
    (row.refused answer (λ q. err_refuses (e ∙ q)) refl, refused_worth re im load t m first x),
  )

  pub done : (counts : List ℕ) (sum : ℕ) → Accepted ≡ answer → CountsLaid re im load t m first counts₀ counts sum → ((k : ℕ) → get_or load k 0 < 256) → Call counts (Ok sum)
  done counts sum h c small = (
    ap (λ (z : ℕ). judged_said (Ok z)) c.sum_is ∙ ap (λ (z : Answer). says z values) h,
    (((λ q. c.counts_are), (λ n. absurd (n (sym h)))), judged_worth re im load t m first (length counts₀) sum (passed t (length load) re im (length counts₀) (sym h)) small c.sum_is),
  )
