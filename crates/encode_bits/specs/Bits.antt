-- Bits of the load, and bits as the binary digits of a number.
use Rattle.std.specs.Prelude.{◌≡◌, List, ℕ, ◌+◌, ◌-◌, ◌*◌, ◌/◌, ◌%◌, ◌^◌, ◌<◌, get_or}
use Rattle.trellis.specs.Lists.{upto}
use Rattle.isdbs_points.specs.Layout.{load_bit}

-- bit i of a byte, high bit first
abbrev pub byte_bit : ℕ → ℕ → ℕ
byte_bit byte i = byte / 2 ^ (7 - i) % 2

-- the coded inputs of the four steps of a byte of a TC8PSK run
abbrev pub byte_inputs : ℕ → List ℕ
byte_inputs byte = upto (λ i. byte_bit byte (2 * i + 1)) 4

-- the inputs of n steps of any other run, from a bit of the load on
abbrev pub plain_inputs : List ℕ → ℕ → ℕ → List ℕ
plain_inputs load bit n = upto (λ k. load_bit load (bit + k)) n

-- ---- binary digits
-- digit i of a word
abbrev pub word_bit : ℕ → ℕ → ℕ
word_bit word i = word / 2 ^ i % 2

-- the first n of the bits us as the digits of a number, the first highest
pub record Digits (us : List ℕ) (n r : ℕ) : Type 0 where
  pub small : r < 2 ^ n
  pub each : (k : ℕ) → k < n → get_or us k 0 ≡ word_bit r (n - 1 - k)
