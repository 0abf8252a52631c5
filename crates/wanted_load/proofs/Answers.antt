-- The answer is that of the first row that holds, 13 being the last.
use mathlib.Core.Path.{◌≡◌, refl, sym, ◌∙◌}
use mathlib.Core.Logic.{◌⊎◌, inl, inr}
use mathlib.Core.Bool.{Bool, true, false}
use mathlib.Core.List.{List, [], ◌∷◌, ◌++◌}
use Prim.Native.Nat.{ℕ}
use lib.Dec.{T}
use lib.ListN.{length}
use lib.Ieee.{Float}
use Rattle.refusal.specs.Rows.{Answer, Accepted, NoLoad, Row, first_row, Either, says, Said, answer_of, number_of}
use Rattle.refusal.specs.RowLaws.{refusing}
use Rattle.refusal.proofs.RowLaws.{decided, is_refused, refused_above, passed_above}
use Rattle.isdbs_tables.specs.declared.Table.{Table}
use Rattle.isdbs_tables.specs.Tables.{table_rows}
use Rattle.isdbs_tables.proofs.TableLaws.{then_refusing}
use Rattle.isdbs_plan.specs.RunsOf.{load_bytes}
use Rattle.isdbs_points.specs.declared.Mapping.{Mapping}
use Rattle.wanted_read.specs.Wanted.{Unwanted}
use Rattle.std.specs.Prelude.{Result, Ok, Err}
use Rattle.refusal.specs.declared.Refusal.{Refusal}
use Rattle.wanted_load.specs.Rows.{lent_rows, earlier_rows, wanted_rows}
use Rattle.wanted_load.specs.Found.{load_said, Tells, Answered, Outcome, found, none, Turned}

-- 13 stands behind the rows that are checked before the frame is read
last_row : (t : Table) (re im bytes : ℕ) (b : Bool) → wanted_rows t re im bytes b ≡ earlier_rows t re im bytes ++ (NoLoad, b) ∷ []
last_row t re im bytes b = refl

earlier_refusing : (t : Table) (re im bytes : ℕ) → T (refusing (earlier_rows t re im bytes))
earlier_refusing t re im bytes = then_refusing t (lent_rows (load_bytes t) re im bytes) tt

refused_said : (r : Result ℕ Refusal) (a : Answer) → answer_of r ≡ a → (a ≡ Accepted → ⊥) → ◌≡◌ {A = Said} (load_said r) (number_of a, [])
refused_said (Ok k) a q n = absurd (n (sym q))
refused_said (Err row) a q n = rw (sym q)

module _ (t : Table) (m : Mapping) (first : Bool) (re im : List Float) (r : Result ℕ Refusal) (bytes₀ bytes : List ℕ) where
  abbrev rows : List Row
  rows = earlier_rows t (length re) (length im) (length bytes₀)

  abbrev Says : Bool → Type 0
  Says b = load_said r ≡ says (first_row (wanted_rows t (length re) (length im) (length bytes₀) b)) (load_bytes t ∷ [])

  refused_says : (a : Answer) (b : Bool) → (a ≡ Accepted → ⊥) → first_row rows ≡ a → answer_of r ≡ a → Says b
  refused_says a b n e q =
      let f : first_row (rows ++ (NoLoad, b) ∷ []) ≡ a = refused_above rows ((NoLoad, b) ∷ []) (λ y. n (sym e ∙ y)) ∙ e in
      rw (last_row t (length re) (length im) (length bytes₀) b) (refused_said r a q n ∙ rw (f, is_refused a n))

  outcome_says : (b : Bool) → Tells b (Unwanted t m first re im) → first_row rows ≡ Accepted → Outcome t m first re im r bytes₀ bytes → Says b
  outcome_says b h e o =
      let f : first_row (rows ++ (NoLoad, b) ∷ []) ≡ first_row ((NoLoad, b) ∷ []) = passed_above rows ((NoLoad, b) ∷ []) (earlier_refusing t (length re) (length im) (length bytes₀)) e in
      rw (last_row t (length re) (length im) (length bytes₀) b) (rw f (go b h o))
    where
      go : (b : Bool) → Tells b (Unwanted t m first re im) → Outcome t m first re im r bytes₀ bytes → load_said r ≡ says (first_row ((NoLoad, b) ∷ [])) (load_bytes t ∷ [])
      go true h (found q load w l) = absurd (h.0 refl load w)
      go false h (found q load w l) = rw q
      go true h (none q n l) = rw q
      go false h (none q n l) = absurd (h.1 refl n)

  -- "The first row that holds, from the top, gives the number returned, alone": of 1, 10, 11, 6, 9 and 13
  pub by_rows : Either (first_row rows) (Outcome t m first re im r bytes₀ bytes) (Turned (first_row rows) r bytes₀ bytes) → Answered t m first re im (length bytes₀) r
  by_rows c b h = go (decided (first_row rows))
    where
      go : (first_row rows ≡ Accepted) ⊎ (first_row rows ≡ Accepted → ⊥) → Says b
      go (inl e) = outcome_says b h e (c.0 e)
      go (inr n) = refused_says (first_row rows) b n refl (c.1 n).answer
