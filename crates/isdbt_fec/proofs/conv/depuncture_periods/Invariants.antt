-- `conv::depuncture_periods` meets its contract.
use Prim.Native.Nat.{◌-◌, ◌≤◌}
use lib.ListN.{length}
use Rattle.isdbt_steps.specs.Soft.{soft_by}
use Rattle.isdbt_table.specs.Table.{period}
use Rattle.isdbt_fec.proofs.Turns.{Readable}
use Rattle.isdbt_table.specs.WrittenLaws.{Written}
use Rattle.isdbt_fec.proofs.conv.depuncture_periods.Given as goal

abbrev pub invariant-loop-k : goal.invariant-loop-k
invariant-loop-k l = (l.k ≤ l.count) × (l.count ≤ length l.initial.out) × Readable (length l.llrs) l.period l.n (length l.order) l.count × Written (soft_by l.period l.n l.order l.llrs) l.k l.initial.out l.out

abbrev pub decreases-loop-k : goal.decreases-loop-k
decreases-loop-k l = l.count - l.k
