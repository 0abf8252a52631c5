-- `pack_pairs` meets its contract.
use mathlib.Core.Path.{◌≡◌}
use mathlib.Core.List.{List}
use Prim.Native.Nat.{ℕ, ◌-◌, ◌*◌, ◌≤◌}
use Rattle.trellis.specs.Lists.{upto, laid}
use Rattle.isdbs_points.specs.Layout.{byte_of}
use Rattle.best_bytes.specs.Packed.{pair_bit}
use Rattle.best_bytes.proofs.pack_pairs.Given as goal

abbrev pub byte_from : List ℕ → List ℕ → ℕ → ℕ
byte_from us zs j = byte_of (λ i. pair_bit us zs (4 * j) i)

abbrev pub invariant-loop-j : goal.invariant-loop-j
invariant-loop-j l = (l.j ≤ l.n) × (l.bytes ≡ laid (upto (byte_from l.bits l.uncoded) l.j) l.initial.bytes)

abbrev pub decreases-loop-j : goal.decreases-loop-j
decreases-loop-j l = l.n - l.j
