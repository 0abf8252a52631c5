-- Request P14, "Overlaying two test patterns": the exclusive-or of two lists, place by place, and the elements at chosen places.
use Rattle.std.specs.Prelude.{List, [], ◌∷◌, map, ℕ, get_or}
use Rattle.std.specs.Int.Bits.{bit_xor}

-- the exclusive-or, as far as both lists reach
abbrev pub overlaid : List ℕ → List ℕ → List ℕ
overlaid [] ys = []
overlaid (x ∷ xs) [] = []
overlaid (x ∷ xs) (y ∷ ys) = bit_xor x y ∷ overlaid xs ys

-- the elements of xs at the places ps, in the order of ps
abbrev pub chosen : List ℕ → List ℕ → List ℕ
chosen ps xs = map (λ p. get_or xs p 0) ps
