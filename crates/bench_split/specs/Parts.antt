-- A line's words, a table's entries, an entry's two numbers: parts of a list of bytes, with one byte, the stop, between each two.
use Rattle.std.specs.Prelude.{Bool, true, false, cond, ◌&&◌, List, [], ◌∷◌, ℕ, zero, suc, ◌+◌, eqb}

-- what follows the i-th stop; nothing where there are fewer
unfoldable pub after : ℕ → ℕ → List ℕ → List ℕ
after stop zero s = s
after stop (suc i) [] = []
after stop (suc i) (b ∷ s) = cond (eqb b stop) (after stop i s) (after stop (suc i) s)

-- what stands before the first stop; all where there is none
unfoldable pub until : ℕ → List ℕ → List ℕ
until stop [] = []
until stop (b ∷ s) = cond (eqb b stop) [] (b ∷ until stop s)

unfoldable pub stops : ℕ → List ℕ → ℕ
stops stop [] = 0
stops stop (b ∷ s) = cond (eqb b stop) 1 0 + stops stop s

-- part i, counted from 0; nothing where there are fewer
abbrev pub part_of : ℕ → List ℕ → ℕ → List ℕ
part_of stop s i = until stop (after stop i s)

-- how many parts
abbrev pub parts_of : ℕ → List ℕ → ℕ
parts_of stop s = stops stop s + 1

-- whether two lists are equal
unfoldable pub equal : List ℕ → List ℕ → Bool
equal [] [] = true
equal [] (y ∷ b) = false
equal (x ∷ a) [] = false
equal (x ∷ a) (y ∷ b) = eqb x y && equal a b
