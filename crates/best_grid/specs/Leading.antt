-- By how much a reading leads in given steps: the least cost of a content that differs there, less its own.
use Rattle.std.specs.Prelude.{List, get_or}
use Prim.Native.Nat.{ℕ, ◌-◌}

-- a list as a sequence
abbrev pub seq : List ℕ → ℕ → ℕ
seq us k = get_or us k 0
