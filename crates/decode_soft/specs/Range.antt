-- Which f64 values the short rounding covers: zero, and magnitudes from 2 ^ -126 on and below those that round to 2 ^ 128, where the f32's numbers have 24 digits. Definitions only.
use Rattle.std.specs.Prelude.{◌≡◌, false, not, List, ℕ, ◌+◌, ◌*◌, ◌/◌, ◌%◌, ◌≤◌, ◌<◌, T, get_or, Float}
use Rattle.std.specs.Float.{nan, binary64}
use Rattle.std.specs.Float.Ieee.{is_nan, eq, of_bits, to_bits, top}

-- a pattern without the sign that is in the range
abbrev pub Between : ℕ → Type 0
Between b = (0x3810_0000_0000_0000 ≤ b) × (b < 0x47ef_ffff_f000_0000)

pub record InRange (x : Float) : Type 0 where
  pub number : T (not (is_nan x))
  pub between : eq x (of_bits binary64 0) ≡ false → Between (to_bits binary64 x % top binary64)

-- the first n values of a list are
abbrev pub AllInRange : List Float → ℕ → Type 0
AllInRange xs n = (i : ℕ) → i < n → InRange (get_or xs i nan)

-- a pattern with the last 29 digits rounded away: to the nearest, at a half to the even one
abbrev pub shortened : ℕ → ℕ
shortened b = (b + 0x0fff_ffff + b / 0x2000_0000 % 2) / 0x2000_0000 * 0x2000_0000
