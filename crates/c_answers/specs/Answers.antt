-- A C call's answer by its rows, and what a call leaves in a lent place.
use Rattle.std.specs.Prelude.{cond, List, ℕ, eqb}
use Rattle.refusal.specs.Rows.{Row, first_row, number_of}

-- 0 where no row holds, else the number of the first that does
abbrev pub answered : List Row → ℕ
answered rows = number_of (first_row rows)

-- what a call leaves in a lent place: `new` where it accepts, else what was there
abbrev pub left : {A : Type 0} → ℕ → A → A → A
left answer new old = cond (eqb answer 0) new old
