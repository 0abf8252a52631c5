-- The table's numbers compile to the order of the sent bits.
use mathlib.Core.Path.{◌≡◌, refl}
use mathlib.Core.Bool.{Bool, ◌&&◌}
use mathlib.Core.List.{List, [], ◌∷◌}
use Prim.Native.Nat.{ℕ, ◌+◌, ◌-◌, ◌*◌, ◌<◌, ◌≤◌}
use lib.Dec.{T, ltb, leb, ltb→lt, leb→le}
use lib.ListN.{get_or, replicate}
use Rattle.trellis.specs.Lists.{upto, laid}
use Rattle.isdbt_table.specs.declared.CodeRate.{CodeRate}
use Rattle.isdbt_table.specs.declared.CodeRate.TheVariants.{R1_2, R2_3, R3_4, R5_6, R7_8}
use Rattle.isdbt_table.specs.declared.PunctureSpec.{PunctureSpec}
use Rattle.isdbt_table.specs.Table.{row_of, spec_of, compiled}
use Rattle.trellis.specs.EachLaws.{both_left, both_right, all, each}

-- the table: each rate's row in its place
abbrev pub table : List PunctureSpec
table = spec_of R1_2 ∷ spec_of R2_3 ∷ spec_of R3_4 ∷ spec_of R5_6 ∷ spec_of R7_8 ∷ []

pub row_at : (d : PunctureSpec) (rate : CodeRate) (row : ℕ) → row ≡ row_of rate → get_or table row d ≡ spec_of rate
row_at d R1_2 row e = rw e refl
row_at d R2_3 row e = rw e refl
row_at d R3_4 row e = rw e refl
row_at d R5_6 row e = rw e refl
row_at d R7_8 row e = rw e refl

-- the number of the mother bit at place k of a row's sequence
abbrev pub bit_of : PunctureSpec → ℕ → ℕ
bit_of s k = 2 * (get_or s.indices k 0 - 1) + get_or s.letters k 0

pub compiles : (rate : CodeRate) → laid (upto (bit_of (spec_of rate)) 8) (replicate 8 0) ≡ (compiled rate).order
unfolding upto
compiles R1_2 = refl
compiles R2_3 = refl
compiles R3_4 = refl
compiles R5_6 = refl
compiles R7_8 = refl

-- letters are 0 or 1, indices 1 to 7
abbrev sound : PunctureSpec → ℕ → Bool
sound s i = ltb (get_or s.letters i 0) 2 && (leb 1 (get_or s.indices i 0) && ltb (get_or s.indices i 0) 8)

all_sound : (rate : CodeRate) → T (all 8 (sound (spec_of rate)))
all_sound R1_2 = tt
all_sound R2_3 = tt
all_sound R3_4 = tt
all_sound R5_6 = tt
all_sound R7_8 = tt

pub in_range : (rate : CodeRate) (s : PunctureSpec) (i : ℕ) → s ≡ spec_of rate → i < 8
    → (get_or s.letters i 0 < 2) × (1 ≤ get_or s.indices i 0) × (get_or s.indices i 0 < 8)
in_range rate s i e h =
    rw e (
    let l = get_or (spec_of rate).letters i 0 in
    let x = get_or (spec_of rate).indices i 0 in
    let t = each 8 (sound (spec_of rate)) (all_sound rate) i h in
    let u = both_right (ltb l 2) (leb 1 x && ltb x 8) t in
    (ltb→lt l 2 (both_left (ltb l 2) (leb 1 x && ltb x 8) t), leb→le 1 x (both_left (leb 1 x) (ltb x 8) u), ltb→lt x 8 (both_right (leb 1 x) (ltb x 8) u))
    )
