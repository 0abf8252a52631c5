-- Several steps of the code at once: the state's stages, the oldest highest, and the inputs, the first highest, as the binary digits of one number.
use Rattle.std.specs.Prelude.{ℕ, ◌+◌, ◌*◌, ◌/◌, ◌%◌, ◌^◌}
use Rattle.std.specs.Int.Bits.{bit_xor}

-- a state of six stages in the other order
unfoldable pub backward : ℕ → ℕ
backward s = 32 * (s % 2) + 16 * (s / 2 % 2) + 8 * (s / 4 % 2) + 4 * (s / 8 % 2) + 2 * (s / 16 % 2) + s / 32 % 2

-- digit j sums what X taps of the window whose lowest digit, the input, is digit j of z: the input and the stages 1, 2, 3 and 6
unfoldable pub x_outputs : ℕ → ℕ
x_outputs z = bit_xor (bit_xor (bit_xor (bit_xor z (z / 2 ^ 1)) (z / 2 ^ 2)) (z / 2 ^ 3)) (z / 2 ^ 6)

-- the same of Y: the input and the stages 2, 3, 5 and 6
unfoldable pub y_outputs : ℕ → ℕ
y_outputs z = bit_xor (bit_xor (bit_xor (bit_xor z (z / 2 ^ 2)) (z / 2 ^ 3)) (z / 2 ^ 5)) (z / 2 ^ 6)

-- both in one number: X from digit 16 on, Y below
abbrev pub outputs_in : ℕ → ℕ
outputs_in z = 65536 * x_outputs (z % 16384) + y_outputs (z % 16384)
