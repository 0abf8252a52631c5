-- Labels by the windows of the bits: the register of a step is the seven bits up to its own.
use Rattle.std.specs.Prelude.{List, ℕ, ◌+◌, ◌*◌, ◌/◌, ◌%◌, ◌^◌, get_or}

-- 2 X + Y of the step at i + 6, whose register is the bits from i on: X taps the input and the stages 1, 2, 3 and 6 (171 octal), Y the input and the stages 2, 3, 5 and 6 (133 octal)
abbrev pub window_label : List ℕ → ℕ → ℕ
window_label us i =
    2 * ((get_or us (i + 6) 0 + get_or us (i + 5) 0 + get_or us (i + 4) 0 + get_or us (i + 3) 0 + get_or us i 0) % 2)
    + (get_or us (i + 6) 0 + get_or us (i + 4) 0 + get_or us (i + 3) 0 + get_or us (i + 1) 0 + get_or us i 0) % 2

-- what its mark says of that step: 1 where it is strained, else 0
unfoldable pub window_mark : List ℕ → List ℕ → ℕ → ℕ
window_mark ms us i = get_or ms (i + 6) 0 / 2 ^ window_label us i % 2
