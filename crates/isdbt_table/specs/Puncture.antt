-- Puncturing of whole periods, and its inverse on soft values. Document 01, "ISDB-T", and ARIB STD-B31, section 3.8.
use Rattle.std.specs.Prelude.{Bool, cond, List, [], ◌∷◌, map, ℕ, ◌+◌, ◌*◌, ◌/◌, ◌%◌, length, get_or, eqb, Float}
use Rattle.std.specs.Float.{nan, binary32}
use Rattle.std.specs.Float.Ieee.{of_bits}
use Rattle.trellis.specs.Lists.{upto}
use Rattle.trellis.specs.Code.{isdb, output, state_at}
use Rattle.trellis.specs.Encoded.{low_bits}
use Rattle.isdbt_table.specs.declared.CodeRate.{CodeRate}
use Rattle.isdbt_table.specs.Table.{row_x, row_y, period, sent, bit_order}
use Rattle.trellis.specs.Isdb

-- bit k of the mother code X1, Y1, X2, Y2, .. of the inputs us, from the state s
unfoldable pub mother : ℕ → List ℕ → ℕ → ℕ
mother s us k = output isdb (cond (eqb (k % 2) 0) 0o171 0o133) (get_or us (k / 2) 0) (state_at Isdb.half s us (k / 2))

-- the mother bit that the sent bit j of a call carries: the pattern begins with the call
abbrev pub bit_place : CodeRate → ℕ → ℕ
bit_place rate j = 2 * period rate * (j / sent rate) + get_or (bit_order rate) (j % sent rate) 0

-- what is sent for the bytes of whole periods, from the state s
unfoldable pub punctured : CodeRate → ℕ → List ℕ → List ℕ
punctured rate s bits = upto (λ j. mother s (low_bits bits) (bit_place rate j)) (length bits / period rate * sent rate)

-- the value for the mother bit k of a period, where xs has from j on the values of the mother bits ps; "Erased soft values are 0"
unfoldable pub spread : List ℕ → List Float → ℕ → ℕ → Float
spread [] xs j k = of_bits binary32 0
spread (p ∷ ps) xs j k = cond (eqb k p) (get_or xs j nan) (spread ps xs (j + 1) k)

-- the soft value of the mother bit k of a call
unfoldable pub soft_at : CodeRate → List Float → ℕ → Float
soft_at rate xs k = spread (bit_order rate) xs (sent rate * (k / (2 * period rate))) (k % (2 * period rate))

-- the soft values of the mother code, from those of whole periods that were sent
unfoldable pub depunctured : CodeRate → List Float → List Float
depunctured rate xs = upto (soft_at rate xs) (length xs / sent rate * (2 * period rate))

-- whether the mother bit k of a call is sent: its row has a 1
abbrev pub kept : CodeRate → ℕ → Bool
kept rate k = eqb (get_or (cond (eqb (k % 2) 0) (row_x rate) (row_y rate)) (k % (2 * period rate) / 2) 0) 1
