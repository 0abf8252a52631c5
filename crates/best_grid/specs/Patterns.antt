-- What an f32 has on the grid, from its bit pattern: digits of it, moved up or down.
use Rattle.std.specs.Prelude.{ℕ, ◌+◌, ◌-◌, ◌*◌, ◌/◌, ◌%◌, ◌^◌, min, cond, ltb}
use Rattle.best_grid.specs.Grid.{unit, most}

-- the magnitude of the pattern b, without its sign, in units of 2 ^ -149; the infinity has none
unfoldable pub magnitude : ℕ → ℕ
magnitude b = cond (ltb b 0x7f80_0000) (cond (ltb b 0x100_0000) b ((b % 0x80_0000 + 0x80_0000) * 2 ^ (b / 0x80_0000 - 1))) 0

-- the units of 2 ^ -20 in the pattern b, without its sign
unfoldable pub units_of : ℕ → ℕ
units_of b = min most (magnitude b / unit)
