-- `conv::decode_periods` meets its contract.
use Prim.Native.Nat.{◌-◌, ◌*◌, ◌<◌, ◌≤◌}
use lib.ListN.{length}
use Rattle.isdbt_steps.specs.Soft.{placed_steps}
use Rattle.isdbt_fec.proofs.Turns.{Readable}
use Rattle.isdbt_fec.proofs.Decoding.{Decoding}
use Rattle.isdbt_fec.proofs.conv.decode_periods.Given as goal

abbrev pub invariant-loop-i : goal.invariant-loop-i
invariant-loop-i l =
    (l.i ≤ l.count) × (2 * l.count < 18446744073709551616) × Readable (length l.llrs) l.period l.n l.n (2 * l.count) × Decoding l.traceback (placed_steps l.period l.n l.places l.llrs) l.count l.initial.pm l.initial.decisions l.initial.out l.i l.pm l.at l.decisions l.out

abbrev pub decreases-loop-i : goal.decreases-loop-i
decreases-loop-i l =
    l.count - l.i
