-- Rates by number, and the calls that take one.
use mathlib.Core.Path.{◌≡◌, refl, ◌∙◌, ap}
use mathlib.Core.List.{List}
use Prim.Native.Nat.{ℕ, zero, suc}
use Rattle.refusal.specs.Rows.{Answer, Row, number_of, first_row}
use Rattle.isdbt_table.specs.declared.CodeRate.{CodeRate}
use Rattle.std.specs.Prelude.{Option, Some, None}
use Rattle.c_answers.specs.Answers.{answered}
use Rattle.c_isdbt.specs.Rates.{rate_by, rate_rows, by_rate}

-- none of 0 to 4
abbrev pub Other : ℕ → Type 0
Other n = (((((Unit × (n ≡ 0 → ⊥)) × (n ≡ 1 → ⊥)) × (n ≡ 2 → ⊥)) × (n ≡ 3 → ⊥)) × (n ≡ 4 → ⊥))

pub other : (n : ℕ) → Other n → None ≡ rate_by n
other zero h = absurd (h.0.0.0.0.1 refl)
other (suc zero) h = absurd (h.0.0.0.1 refl)
other (suc (suc zero)) h = absurd (h.0.0.1 refl)
other (suc (suc (suc zero))) h = absurd (h.0.1 refl)
other (suc (suc (suc (suc zero)))) h = absurd (h.1 refl)
other (suc (suc (suc (suc (suc n))))) h = refl

module _ (m : Option CodeRate) (c : CodeRate) (em : m ≡ Some c) where
  pub rate_answer : (above : List Row) (rows : CodeRate → List Row) (n : ℕ) (a : Answer) → n ≡ number_of a → a ≡ first_row (rows c) → n ≡ answered (rate_rows above m rows)
  rate_answer above rows n a en ea = rw em (en ∙ ap number_of ea)

  pub rate_value : {A : Type 0} (none : A) (f : CodeRate → A) → f c ≡ by_rate m none f
  rate_value none f = rw em
