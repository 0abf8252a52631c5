-- `pack_plain` meets its contract.
use lib.ListN.{get_or}
use Rattle.isdbs_points.specs.Layout.{byte_of}
use Rattle.trellis.specs.Lists.{upto, laid}
use Prim.Native.Nat.{◌+◌, ◌-◌, ◌*◌, ◌≤◌}
use mathlib.Core.Path.{◌≡◌}
use Rattle.decode_bytes.proofs.pack_plain.Given as goal

abbrev pub invariant-loop-j : goal.invariant-loop-j
invariant-loop-j l = (l.j ≤ l.n) × (l.bytes ≡ laid (upto (λ h. byte_of (λ i. get_or l.bits (8 * h + i) 0)) l.j) l.initial.bytes)

abbrev pub decreases-loop-j : goal.decreases-loop-j
decreases-loop-j l = l.n - l.j
