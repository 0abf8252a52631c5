-- CRC-32 by its polynomial, a bit at a time: x^32 + x^26 + x^23 + x^22 + x^16 + x^12 + x^11 + x^10 + x^8 + x^7 + x^5 + x^4 + x^2 + x + 1 (04C11DB7h; EDB88320h with the first bit
-- lowest), over the bits of each byte from the lowest on; the register begins with ones, and the sum is the register with every bit turned.
use Rattle.std.specs.Prelude.{cond, List, [], ◌∷◌, ℕ, ◌/◌, ◌%◌, eqb}
use Rattle.std.specs.Int.Bits.{bit_xor}

-- the register after one bit: it is divided by x, and where its lowest bit was 1 the polynomial is added
unfoldable pub shifted : ℕ → ℕ
shifted r = cond (eqb (r % 2) 1) (bit_xor (r / 2) 3988292384) (r / 2)

-- the register after a byte
unfoldable pub stepped : ℕ → ℕ → ℕ
stepped r b = shifted (shifted (shifted (shifted (shifted (shifted (shifted (shifted (bit_xor r b))))))))

-- the register after a list of bytes
unfoldable pub register : ℕ → List ℕ → ℕ
register r [] = r
register r (b ∷ s) = register (stepped r b) s

-- the checksum of a list of bytes
unfoldable pub checksum : List ℕ → ℕ
checksum s = bit_xor (register 4294967295 s) 4294967295
