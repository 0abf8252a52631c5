-- `viterbi_four::row01` meets its contract. The invariant: j metrics of the row are written.
use Prim.Native.Nat.{◌-◌}
use Rattle.viterbi_four.proofs.RowLaws.{Row}
use Rattle.viterbi_four.proofs.row01.Given as goal

abbrev pub invariant-loop-j : goal.invariant-loop-j
invariant-loop-j l = Row l.m 0 1 l.j l.r

abbrev pub decreases-loop-j : goal.decreases-loop-j
decreases-loop-j l = 32 - l.j
