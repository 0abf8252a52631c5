-- Code rates by number, for the calls of ISDB-T.
use Rattle.std.specs.Prelude.{List, [], ◌∷◌, ℕ, get_or, Option, Some, None}
use Rattle.refusal.specs.Rows.{Row}
use Rattle.isdbt_table.specs.declared.CodeRate.{CodeRate}
use Rattle.isdbt_table.specs.declared.CodeRate.TheVariants.{R1_2, R2_3, R3_4, R5_6, R7_8}
use Rattle.c_answers.specs.Lengths.{until_length}

-- rates 0 to 4 for 1/2, 2/3, 3/4, 5/6, 7/8
abbrev pub rates : List (Option CodeRate)
rates = Some R1_2 ∷ Some R2_3 ∷ Some R3_4 ∷ Some R5_6 ∷ Some R7_8 ∷ []

abbrev pub rate_by : ℕ → Option CodeRate
rate_by n = get_or rates n None

-- a call's rows, of which those above row 5 do not depend on the rate; 5: an unknown rate
abbrev pub rate_rows : List Row → Option CodeRate → (CodeRate → List Row) → List Row
rate_rows above (Some c) rows = rows c
rate_rows above None rows = until_length above

-- what a rate gives
abbrev pub by_rate : {A : Type 0} → Option CodeRate → A → (CodeRate → A) → A
by_rate (Some c) none f = f c
by_rate None none f = none
