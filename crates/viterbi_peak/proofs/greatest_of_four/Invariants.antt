-- `viterbi_peak::greatest_of_four` meets its contract. The invariant: after s turns each chain has the greatest of its first s places.
use Prim.Native.Nat.{◌-◌, ◌≤◌}
use Rattle.viterbi_peak.proofs.Peaks.{Peak, Chain}
use Rattle.viterbi_peak.proofs.greatest_of_four.Given as goal

abbrev pub invariant-loop-s : goal.invariant-loop-s
invariant-loop-s l =
    (l.s ≤ 16) × Peak l.pm (Chain 0 l.s) l.a × Peak l.pm (Chain 1 l.s) l.b × Peak l.pm (Chain 2 l.s) l.c × Peak l.pm (Chain 3 l.s) l.d

abbrev pub decreases-loop-s : goal.decreases-loop-s
decreases-loop-s l = 16 - l.s
