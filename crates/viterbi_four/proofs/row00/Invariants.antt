-- `viterbi_four::row00` meets its contract. The invariant: j metrics of the row are written.
use Prim.Native.Nat.{◌-◌}
use Rattle.viterbi_four.proofs.RowLaws.{Row}
use Rattle.viterbi_four.proofs.row00.Given as goal

abbrev pub invariant-loop-j : goal.invariant-loop-j
invariant-loop-j l = Row l.m 0 0 l.j l.r

abbrev pub decreases-loop-j : goal.decreases-loop-j
decreases-loop-j l = 32 - l.j
