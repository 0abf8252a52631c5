-- `viterbi_steps::run` meets its contract.
use Prim.Native.Nat.{◌+◌, ◌-◌, ◌≤◌}
use Rattle.viterbi_steps.specs.Runs.{steps_of}
use Rattle.viterbi_steps.proofs.Turn.{Ran}
use Rattle.viterbi_steps.proofs.run.Given as goal

abbrev pub invariant-loop-k : goal.invariant-loop-k
invariant-loop-k l = (l.k ≤ l.n) × Ran (λ j. steps_of l.kind l.values l.bits (l.from + j)) l.pm l.initial.words l.k l.paths l.words

abbrev pub decreases-loop-k : goal.decreases-loop-k
decreases-loop-k l = l.n - l.k
