-- `pack_plain` meets its contract.
use mathlib.Core.Path.{◌≡◌}
use mathlib.Core.List.{List}
use Prim.Native.Nat.{ℕ, ◌+◌, ◌-◌, ◌*◌, ◌≤◌}
use lib.ListN.{get_or}
use Rattle.trellis.specs.Lists.{upto, laid}
use Rattle.isdbs_points.specs.Layout.{byte_of}
use Rattle.best_bytes.proofs.pack_plain.Given as goal

abbrev pub byte_from : List ℕ → ℕ → ℕ
byte_from us j = byte_of (λ i. get_or us (8 * j + i) 0)

abbrev pub invariant-loop-j : goal.invariant-loop-j
invariant-loop-j l = (l.j ≤ l.n) × (l.bytes ≡ laid (upto (byte_from l.bits) l.j) l.initial.bytes)

abbrev pub decreases-loop-j : goal.decreases-loop-j
decreases-loop-j l = l.n - l.j
