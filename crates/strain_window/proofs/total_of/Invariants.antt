-- `total_of` meets its contract. The invariant: the total is that of the sums passed, and at most 68,208 for each.
use Rattle.std.proofs.Common.{◌≡◌, ◌*◌, ◌≤◌, take}
use Rattle.strain_window.specs.Rows.{most_sum}
use Rattle.strain_window.specs.Calls.{total_of}
use Rattle.strain_window.proofs.total_of.Given as goal

abbrev pub invariant-loop-sum : goal.invariant-loop-sum
invariant-loop-sum l = (l.total ≡ total_of (take l.sum-index l.sums)) × (l.total ≤ most_sum * l.sum-index)
