-- Table 3-8 agrees with itself: its rows and its sequence send the same bits.
use Rattle.std.specs.Prelude.{◌≡◌, refl, cond, List, [], ◌∷◌, ◌++◌, ℕ, ◌+◌, eqb}
use Rattle.isdbt_table.specs.declared.CodeRate.{CodeRate}
use Rattle.isdbt_table.specs.declared.CodeRate.TheVariants.{R1_2, R2_3, R3_4, R5_6, R7_8}
use Rattle.isdbt_table.specs.Table.{CodedBit, X, Y, row_x, row_y, sequence}

-- the bits whose row has a 1, as X1, Y1, X2, Y2, ..; i is the number of the rows' first input
abbrev pub marked : List ℕ → List ℕ → ℕ → List CodedBit
marked [] ys i = []
marked (x ∷ xs) [] i = []
marked (x ∷ xs) (y ∷ ys) i =
    cond (eqb x 1) (X i ∷ []) [] ++ cond (eqb y 1) (Y i ∷ []) [] ++ marked xs ys (i + 1)

-- the table agrees with itself: the sequence sends exactly the bits whose row has a 1
pub rows_agree : (rate : CodeRate) → sequence rate ≡ marked (row_x rate) (row_y rate) 1
rows_agree R1_2 = refl
rows_agree R2_3 = refl
rows_agree R3_4 = refl
rows_agree R5_6 = refl
rows_agree R7_8 = refl
