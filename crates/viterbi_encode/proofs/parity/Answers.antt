-- `viterbi_encode::parity` meets its contract: by a test of all bytes.
use mathlib.Core.Path.{◌≡◌}
use mathlib.Core.Bool.{Bool}
use Prim.Native.Nat.{ℕ, ◌/◌, ◌%◌, ◌<◌}
use lib.Bits.{bit_xor}
use lib.Dec.{T, eqb, eqb→eq}
use borrow.Author.Rules.{rules}
use Rattle.trellis.specs.Parity.{ones}
use Rattle.trellis.specs.EachLaws.{all, each}
use Rattle.viterbi_encode.proofs.parity.Goals as goal

abbrev four : ℕ → ℕ
four x = bit_xor x (x / 16)

abbrev two : ℕ → ℕ
two x = bit_xor (four x) (four x / 4)

abbrev one : ℕ → ℕ
one x = bit_xor (two x) (two x / 2) % 2

abbrev same : ℕ → Bool
same x = eqb (one x) (ones 8 x % 2)

right : T (all 256 same) → (x : ℕ) → x < 256 → one x ≡ ones 8 x % 2
right t x h = eqb→eq (one x) (ones 8 x % 2) (each 256 same t x h)

pub returns : goal.returns
unfolding ones
returns c = right tt c.args.x (search rules)
