-- `viterbi_release::move_down` meets its contract. The invariant: the first t words are in their new places, and the rest is as before.
use mathlib.Core.Path.{◌≡◌}
use Prim.Native.Nat.{◌-◌, ◌≤◌}
use lib.ListN.{length, take, drop}
use Rattle.trellis.specs.Lists.{laid}
use Rattle.viterbi_release.proofs.move_down.Given as goal

abbrev pub invariant-loop-t : goal.invariant-loop-t
invariant-loop-t l = (l.t ≤ l.n) × (l.decisions ≡ laid (take l.t (drop 4096 l.initial.decisions)) l.initial.decisions) × (length l.decisions ≡ length l.initial.decisions)

abbrev pub decreases-loop-t : goal.decreases-loop-t
decreases-loop-t l = l.n - l.t
