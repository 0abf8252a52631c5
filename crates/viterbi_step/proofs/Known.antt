-- "A known bit is a pair step of two zeros".
use mathlib.Core.Path.{◌≡◌, refl}
use mathlib.Core.List.{List}
use Prim.Native.Nat.{ℕ}
use lib.Ieee.{Float, binary32, of_bits}
use Rattle.trellis.specs.Step as trellis
use Rattle.trellis.specs.Step.{pair, known}
use Rattle.trellis.specs.Isdb.{nexts, word}

abbrev zero_f : Float
zero_f = of_bits binary32 0

pub known_nexts : (pm : List Float) (b : ℕ) → nexts pm (pair zero_f zero_f) ≡ nexts pm (known b)
unfolding trellis.nexts trellis.next trellis.wins trellis.cand trellis.branch
known_nexts pm b = refl

pub known_word : (pm : List Float) (b : ℕ) → word pm (pair zero_f zero_f) ≡ word pm (known b)
unfolding trellis.word trellis.wins trellis.cand trellis.branch
known_word pm b = refl
