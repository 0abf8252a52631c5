-- Laws of row 5 at its place.
use Rattle.std.specs.Prelude.{◌≡◌, refl, Bool, true, false, cond, List, [], ◌∷◌, ℕ, T, length, Float}
use Rattle.std.proofs.Common.{sym, ◌∙◌, ap, lit<, eq-eqb, ne_eqb}
use Rattle.refusal.specs.Rows.{Answer, Traceback, State, Length, Sample, Space, Row, number_of, first_row, accepted}
use Rattle.refusal.specs.RowLaws.{refusing}
use Rattle.refusal.proofs.RowLaws.{numbered, zero_accepted, placed_false, last_refuses, accepted_is, refused_is, refused_above, passed_above}
use Rattle.trellis.specs.Lists.{first_place}
use Rattle.c_answers.specs.Answers.{answered}
use Rattle.c_answers.specs.Lengths.{above_length, with_length, with_states, until_length}

module _ (pm : List Float) (rows : List Row) (n : ℕ) where
  -- path values that are not 64
  pub not_states : (length pm ≡ 64 → ⊥) → n ≡ answered (with_length true rows) → n ≡ answered (with_states pm rows)
  not_states h e = rw (ne_eqb (length pm) 64 h) e

  -- and where they are 64 the other rows decide
  pub states_answer : (a : Answer) → length pm ≡ 64 → n ≡ number_of a → a ≡ first_row rows → n ≡ answered (with_states pm rows)
  states_answer a h e f = rw (eq-eqb (length pm) 64 h) (e ∙ ap number_of (f ∙ sym (placed_false above_length Length rows)))

-- a row 5 that holds, below rows that answer a
pub until_length_lem : (above : List Row) → T (refusing above) → (a : Answer) → a ≡ first_row above → (n : ℕ) → n ≡ number_of (cond (accepted a) Length a) → n ≡ answered (until_length above)
until_length_lem above r a e n f = f ∙ ap (λ (x : Answer). number_of (cond (accepted x) Length x)) e ∙ ap number_of (by (accepted (first_row above)) refl)
  where
    by : (b : Bool) → accepted (first_row above) ≡ b → cond b Length (first_row above) ≡ first_row (until_length above)
    by true h = sym (passed_above above ((Length, true) ∷ []) r (accepted_is (first_row above) h))
    by false h = sym (refused_above above ((Length, true) ∷ []) (refused_is (first_row above) h))

-- rows that end with a row 5 that holds refuse
pub until_refuses : (above : List Row) → T (refusing above) → (n : ℕ) → n ≡ answered (until_length above) → n ≡ 0 → ⊥
until_refuses above r n e z = last_refuses above Length r (numbered Length (lit< tt)) (zero_accepted (first_row (until_length above)) (sym e ∙ z))

-- rows 3 and 4 stand above row 5, rows 7 and 9 below it
pub above : (b : Bool) → (above_length (Traceback, b) ≡ true) × (above_length (State, b) ≡ true)
unfolding first_place
above b = (refl, refl)

pub below : (b : Bool) → (above_length (Sample, b) ≡ false) × (above_length (Space, b) ≡ false)
unfolding first_place
below b = (refl, refl)
