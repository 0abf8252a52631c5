-- `soft` is `rounded binary32` (crate ieee, Conversion), which is defined over exact values. Here: the same by bit patterns, as the code works it out.
use Rattle.std.specs.Prelude.{◌≡◌, Bool, cond, ℕ, ◌+◌, ◌≤◌}
use Rattle.std.specs.Float.{binary32, binary64}
use Rattle.std.specs.Float.Ieee.{top, of_bits}
use Rattle.ieee.specs.Conversion.{rounded}

-- r is the pattern of the f32 nearest to the f64 of the pattern b, both without the sign, whichever sign is put before both
pub record Narrowed (b r : ℕ) : Type 0 where
  pub small : r ≤ 0x7f80_0000
  pub nearest : (s : Bool) → of_bits binary32 (cond s (top binary32) 0 + r) ≡ rounded binary32 (of_bits binary64 (cond s (top binary64) 0 + b))
