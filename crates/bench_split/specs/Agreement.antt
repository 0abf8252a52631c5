-- How many bytes of two lists agree: places that both have and at which their bytes are equal.
use Rattle.std.specs.Prelude.{cond, List, [], ◌∷◌, ℕ, ◌+◌, eqb}

unfoldable pub agreement : List ℕ → List ℕ → ℕ
agreement [] b = 0
agreement (x ∷ a) [] = 0
agreement (x ∷ a) (y ∷ b) = cond (eqb x y) 1 0 + agreement a b
