-- `count_rest` meets its contract.
use mathlib.Core.Path.{◌≡◌}
use Prim.Native.Nat.{◌-◌, ◌≤◌}
use Rattle.strain_marks.specs.Counts.{summed}
use Rattle.decode_strain.specs.Windows.{window_mark}
use Rattle.decode_strain.proofs.count_rest.Given as goal

abbrev pub invariant-loop-k : goal.invariant-loop-k
invariant-loop-k l = (l.k ≤ l.n) × (l.count ≡ summed (window_mark l.marks l.bits) l.k)

abbrev pub decreases-loop-k : goal.decreases-loop-k
decreases-loop-k l = l.n - l.k
