-- `viterbi_step::pair_half` meets its contract. The invariant: after j turns the states 32 u to 32 u + j are written.
use mathlib.Core.Path.{◌≡◌}
use Prim.Native.Nat.{◌-◌, ◌≤◌}
use Rattle.trellis.specs.Step.{pair}
use Rattle.viterbi_step.specs.Half.{Half}
use Rattle.viterbi_step.proofs.pair_half.Given as goal

abbrev pub invariant-loop-j : goal.invariant-loop-j
invariant-loop-j l = (l.j-end ≡ 32) × (l.j ≤ 32) × Half l.old (pair l.lx l.ly) l.u l.initial.new l.j l.new l.w

abbrev pub decreases-loop-j : goal.decreases-loop-j
decreases-loop-j l = 32 - l.j
