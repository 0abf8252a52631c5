-- One byte more of a list, as a loop takes it.
use mathlib.Core.Path.{◌≡◌}
use mathlib.Core.List.{List}
use Prim.Native.Nat.{ℕ, ◌+◌, ◌<◌}
use native.Mathlib.Numerals.{add-one}
use lib.ListN.{length, get_or, drop}
use lib.Seq.{drop-cons}
use Rattle.bench_checksum.specs.Crc.{stepped, register}

module _ (r : ℕ) (s : List ℕ) (i : ℕ) (h : i < length s) where
  pub register_next : register r (drop i s) ≡ register (stepped r (get_or s i 0)) (drop (i + 1) s)
  unfolding register
  register_next = rw (add-one, drop-cons s i 0)
