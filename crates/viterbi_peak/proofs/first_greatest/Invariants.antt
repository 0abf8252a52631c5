-- `viterbi_peak::first_greatest` meets its contract. The invariant: t is the greatest of the values below s.
use mathlib.Core.Path.{◌≡◌}
use Prim.Native.Nat.{◌-◌, ◌≤◌}
use Rattle.trellis.specs.Step.{top}
use Rattle.viterbi_peak.proofs.first_greatest.Given as goal

abbrev pub invariant-loop-s : goal.invariant-loop-s
invariant-loop-s l = (l.s ≤ 64) × (l.t ≡ top l.pm l.s)

abbrev pub decreases-loop-s : goal.decreases-loop-s
decreases-loop-s l = 64 - l.s
