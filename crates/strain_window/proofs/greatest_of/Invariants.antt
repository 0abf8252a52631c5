-- `greatest_of` meets its contract. The invariant: the greatest is that of the sums passed.
use Rattle.std.proofs.Common.{◌≡◌, take}
use Rattle.strain_window.specs.Calls.{greatest_of}
use Rattle.strain_window.proofs.greatest_of.Given as goal

abbrev pub invariant-loop-sum : goal.invariant-loop-sum
invariant-loop-sum l = l.greatest ≡ greatest_of (take l.sum-index l.sums)
