-- A value that is no zero, by the two tests of the order.
use Rattle.std.specs.Prelude.{◌≡◌, ◌⊎◌, true, Float}
use Rattle.std.specs.Float.{binary32}
use Rattle.std.specs.Float.Ieee.{lt, of_bits}

abbrev pub NotZero : Float → Type 0
NotZero x = (lt x (of_bits binary32 0) ≡ true) ⊎ (lt (of_bits binary32 0) x ≡ true)
