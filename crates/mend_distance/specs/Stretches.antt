-- Request P13, "Mending stored coded stretches": a stretch of X, Y bits, and the coded stretches near it.
use Rattle.std.specs.Prelude.{◌≡◌, cond, List, [], ◌∷◌, ◌++◌, ℕ, ◌+◌, ◌*◌, ◌/◌, ◌%◌, ◌≤◌, eqb, length}
use Rattle.trellis.specs.Code.{isdb}
use Rattle.trellis.specs.Encoded.{encoded, reached, bits_of}
use Rattle.trellis.specs.Stretch.{Bits}

-- "differs in at most four bits"
abbrev pub most_changed : ℕ
most_changed = 4

-- the places in which two stretches of bits differ, counted
abbrev pub unlike : List ℕ → List ℕ → ℕ
unlike [] ys = 0
unlike (x ∷ xs) [] = 0
unlike (x ∷ xs) (y ∷ ys) = cond (eqb x y) 0 1 + unlike xs ys

-- "the changed positions in rising order, X of step t (from 0) being 2t and Y 2t+1": the places in which they differ, the first place being i
abbrev pub changed : ℕ → List ℕ → List ℕ → List ℕ
changed i [] ys = []
changed i (x ∷ xs) [] = []
changed i (x ∷ xs) (y ∷ ys) = cond (eqb x y) [] (i ∷ []) ++ changed (i + 1) xs ys

-- the bits that the inputs us send from the state s
abbrev pub sent_from : ℕ → List ℕ → List ℕ
sent_from s us = bits_of (encoded isdb s us)

-- "the coded stretch that differs in at most four bits", between the states s and e: that of the inputs us
pub record WithinFour (s e : ℕ) (bits us : List ℕ) : Type 0 where
  pub count : length bits ≡ 2 * length us
  pub inputs : Bits us
  pub ends : reached isdb s us ≡ e
  pub four : unlike (sent_from s us) bits ≤ most_changed
