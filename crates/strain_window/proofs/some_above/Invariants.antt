-- `some_above` meets its contract. The invariant: what is said of the sums passed.
use Rattle.std.proofs.Common.{◌≡◌, take}
use Rattle.strain_window.specs.Rows.{sum_above}
use Rattle.strain_window.proofs.some_above.Given as goal

abbrev pub invariant-loop-sum : goal.invariant-loop-sum
invariant-loop-sum l = l.some ≡ sum_above (take l.sum-index l.sums)
