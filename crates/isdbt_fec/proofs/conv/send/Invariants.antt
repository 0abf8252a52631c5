-- `conv::send` meets its contract.
use Prim.Native.Nat.{◌-◌, ◌≤◌}
use lib.ListN.{get_or}
use Rattle.isdbt_table.specs.WrittenLaws.{Written}
use Rattle.isdbt_fec.proofs.conv.send.Given as goal

abbrev pub invariant-loop-j : goal.invariant-loop-j
invariant-loop-j l = (l.j ≤ l.n) × Written (λ k. get_or l.m (get_or l.order k 0) 0) l.j l.initial.out l.out

abbrev pub decreases-loop-j : goal.decreases-loop-j
decreases-loop-j l = l.n - l.j
