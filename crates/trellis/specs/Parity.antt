-- "Input u at state s gives parities of (64u+s) under 171 and 133 octal and goes to 32u + s/2 (rounded down)": the shift register's outputs are these
-- parities. One computed test over the 128 numbers.
use Rattle.std.specs.Prelude.{ℕ, zero, suc, ◌+◌, ◌/◌, ◌%◌}
use Rattle.std.specs.Int.Bits.{bit_and}

-- the ones among the lowest n binary digits of x
unfoldable pub ones : ℕ → ℕ → ℕ
ones zero x = 0
ones (suc n) x = ones n (x / 2) + x % 2

-- the parity of a seven-digit number under a generator
unfoldable pub parity : ℕ → ℕ → ℕ
parity g x = ones 7 (bit_and x g) % 2
