-- `conv::encode_periods` meets its contract.
use Prim.Native.Nat.{◌-◌, ◌≤◌}
use lib.ListN.{length}
use Rattle.isdbt_fec.proofs.Periods.{Sendable, Coded}
use Rattle.isdbt_fec.proofs.conv.encode_periods.Given as goal

abbrev pub invariant-loop-b : goal.invariant-loop-b
invariant-loop-b l = (l.b ≤ l.b-end) × Sendable (length l.bits) (length l.initial.out) l.period l.n l.order l.b-end × Coded l.state l.bits l.initial.out l.period l.n l.order l.b l.s l.out

abbrev pub decreases-loop-b : goal.decreases-loop-b
decreases-loop-b l = l.b-end - l.b
