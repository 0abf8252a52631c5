-- `Puncturing::new` meets its contract.
use Prim.Native.Nat.{◌-◌, ◌≤◌}
use Rattle.isdbt_table.proofs.Compiled.{bit_of}
use Rattle.isdbt_table.specs.WrittenLaws.{Written}
use Rattle.isdbt_table.proofs.Puncturing.new.Given as goal

abbrev pub invariant-loop-i : goal.invariant-loop-i
invariant-loop-i l = (l.i ≤ 8) × Written (bit_of l.s) l.i l.initial.order l.order

abbrev pub decreases-loop-i : goal.decreases-loop-i
decreases-loop-i l = 8 - l.i
