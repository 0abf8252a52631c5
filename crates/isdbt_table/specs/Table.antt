-- Table 3-8 of ARIB STD-B31, section 3.8, as the Rust transcribes it (`TABLE_3_8`, which document 01 names): which bits of the mother code are sent at each code rate, and in what
-- order.
use Rattle.std.specs.Prelude.{List, [], ◌∷◌, ◌++◌, map, ℕ, ◌+◌, ◌-◌, ◌*◌, length}
use Rattle.trellis.specs.Lists.{padded}
use Rattle.isdbt_table.specs.declared.CodeRate.{CodeRate}
use Rattle.isdbt_table.specs.declared.CodeRate.TheVariants.{R1_2, R2_3, R3_4, R5_6, R7_8}
use Rattle.isdbt_table.specs.declared.PunctureSpec.{PunctureSpec}
use Rattle.isdbt_table.specs.declared.Puncturing.{Puncturing}

-- a bit of the mother code within a period: output X or Y for the input of that number, counted from 1
pub data CodedBit : Type 0 where
  X : ℕ → CodedBit
  Y : ℕ → CodedBit

-- the rows "X:" and "Y:": 1 where the bit is sent
abbrev pub row_x : CodeRate → List ℕ
row_x R1_2 = 1 ∷ []
row_x R2_3 = 1 ∷ 0 ∷ []
row_x R3_4 = 1 ∷ 0 ∷ 1 ∷ []
row_x R5_6 = 1 ∷ 0 ∷ 1 ∷ 0 ∷ 1 ∷ []
row_x R7_8 = 1 ∷ 0 ∷ 0 ∷ 0 ∷ 1 ∷ 0 ∷ 1 ∷ []

abbrev pub row_y : CodeRate → List ℕ
row_y R1_2 = 1 ∷ []
row_y R2_3 = 1 ∷ 1 ∷ []
row_y R3_4 = 1 ∷ 1 ∷ 0 ∷ []
row_y R5_6 = 1 ∷ 1 ∷ 0 ∷ 1 ∷ 0 ∷ []
row_y R7_8 = 1 ∷ 1 ∷ 1 ∷ 1 ∷ 0 ∷ 1 ∷ 0 ∷ []

-- the transmission-signal sequence
abbrev pub sequence : CodeRate → List CodedBit
sequence R1_2 = X 1 ∷ Y 1 ∷ []
sequence R2_3 = X 1 ∷ Y 1 ∷ Y 2 ∷ []
sequence R3_4 = X 1 ∷ Y 1 ∷ Y 2 ∷ X 3 ∷ []
sequence R5_6 = X 1 ∷ Y 1 ∷ Y 2 ∷ X 3 ∷ Y 4 ∷ X 5 ∷ []
sequence R7_8 = X 1 ∷ Y 1 ∷ Y 2 ∷ Y 3 ∷ Y 4 ∷ X 5 ∷ Y 6 ∷ X 7 ∷ []

-- the input bits of a period, and the bits sent for them
abbrev pub period : CodeRate → ℕ
period rate = length (row_x rate)

abbrev pub sent : CodeRate → ℕ
sent rate = length (sequence rate)

-- the mother code's bits of a period are numbered X1, Y1, X2, Y2, .. from 0
abbrev pub letter : CodedBit → ℕ
letter (X i) = 0
letter (Y i) = 1

abbrev pub index : CodedBit → ℕ
index (X i) = i
index (Y i) = i

abbrev pub number : CodedBit → ℕ
number b = 2 * (index b - 1) + letter b

-- the mother bits that are sent of a period, in their order
abbrev pub bit_order : CodeRate → List ℕ
bit_order rate = map number (sequence rate)

-- the rates in the table's order
abbrev pub row_of : CodeRate → ℕ
row_of R1_2 = 0
row_of R2_3 = 1
row_of R3_4 = 2
row_of R5_6 = 3
row_of R7_8 = 4

-- the table's row as the code holds it, in numbers
abbrev pub spec_of : CodeRate → PunctureSpec
spec_of rate =
    record {
      rate = rate;
      period = period rate;
      x = padded 7 0 (row_x rate);
      y = padded 7 0 (row_y rate);
      n = sent rate;
      letters = padded 8 0 (map letter (sequence rate));
      indices = padded 8 1 (map index (sequence rate));
    }

-- the sequence compiled to mother bits
abbrev pub compiled : CodeRate → Puncturing
compiled rate = record { period = period rate; n = sent rate; order = padded 8 0 (bit_order rate) }
