-- `mend_distance::keep_words` meets its contract. The invariant: the table is that after t steps, and the words of t steps are laid.
use mathlib.Core.Path.{◌≡◌}
use Prim.Native.Nat.{◌-◌, ◌%◌, ◌≤◌}
use Rattle.trellis.specs.Lists.{upto, laid}
use Rattle.mend_distance.specs.Distances.{pair_at, nearest, word_at}
use Rattle.mend_distance.proofs.keep_words.Given as goal

abbrev pub invariant-loop-t : goal.invariant-loop-t
invariant-loop-t l = (l.t ≤ l.n) × (l.d ≡ nearest (l.start % 64) (pair_at l.bits) l.t) × (l.decisions ≡ laid (upto (word_at (l.start % 64) l.bits) l.t) l.initial.decisions)

abbrev pub decreases-loop-t : goal.decreases-loop-t
decreases-loop-t l = l.n - l.t
