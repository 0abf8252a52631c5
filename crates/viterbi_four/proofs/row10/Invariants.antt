-- `viterbi_four::row10` meets its contract. The invariant: j metrics of the row are written.
use Prim.Native.Nat.{◌-◌}
use Rattle.viterbi_four.proofs.RowLaws.{Row}
use Rattle.viterbi_four.proofs.row10.Given as goal

abbrev pub invariant-loop-j : goal.invariant-loop-j
invariant-loop-j l = Row l.m 1 0 l.j l.r

abbrev pub decreases-loop-j : goal.decreases-loop-j
decreases-loop-j l = 32 - l.j
