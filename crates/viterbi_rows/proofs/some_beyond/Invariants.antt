-- `some_beyond` meets its contract. The invariant: what is said of the list is said of a value seen, or of what is left.
use mathlib.Core.Path.{◌≡◌}
use Prim.Native.Nat.{◌-◌, ◌≤◌}
use mathlib.Core.Bool.{◌||◌}
use lib.ListN.{length, drop}
use Rattle.viterbi_rows.specs.Values.{some_beyond}
use Rattle.viterbi_rows.proofs.some_beyond.Given as goal

abbrev pub invariant-loop-i : goal.invariant-loop-i
invariant-loop-i l = (l.i ≤ length l.xs) × (some_beyond l.limit l.xs ≡ (l.some || some_beyond l.limit (drop l.i l.xs)))

abbrev pub decreases-loop-i : goal.decreases-loop-i
decreases-loop-i l = length l.xs - l.i
