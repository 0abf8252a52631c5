-- `viterbi_release::clear` meets its contract. The invariant: the first t words are 0, and the rest is as before.
use mathlib.Core.Path.{◌≡◌}
use Prim.Native.Nat.{◌+◌, ◌-◌, ◌≤◌}
use mathlib.Core.List.{◌++◌}
use lib.ListN.{length, drop, replicate}
use Rattle.viterbi_release.proofs.clear.Given as goal

abbrev pub invariant-loop-t : goal.invariant-loop-t
invariant-loop-t l = (l.t ≤ l.n) × (l.decisions ≡ replicate l.t 0 ++ drop l.t l.initial.decisions) × (length l.decisions ≡ length l.initial.decisions)

abbrev pub decreases-loop-t : goal.decreases-loop-t
decreases-loop-t l = l.n - l.t
