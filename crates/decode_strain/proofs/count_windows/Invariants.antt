-- `count_windows` meets its contract.
use mathlib.Core.Path.{◌≡◌}
use Prim.Native.Nat.{◌-◌, ◌≤◌}
use Rattle.strain_marks.specs.Counts.{summed}
use Rattle.decode_strain.specs.Windows.{window_mark}
use Rattle.decode_strain.proofs.count_windows.Given as goal

abbrev pub invariant-loop-i : goal.invariant-loop-i
invariant-loop-i l = (l.i ≤ l.n) × (l.count ≡ summed (window_mark l.marks l.bits) l.i)

abbrev pub decreases-loop-i : goal.decreases-loop-i
decreases-loop-i l = l.n - l.i
