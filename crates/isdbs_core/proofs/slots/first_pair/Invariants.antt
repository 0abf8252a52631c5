-- `first_pair` meets its contract: the pairs passed do not hold the input.
use Prim.Native.Nat.{◌-◌}
use Rattle.isdbs_core.proofs.Pairs.{front, Passed}
use Rattle.isdbs_core.proofs.slots.first_pair.Given as goal

abbrev pub invariant-loop-j : goal.invariant-loop-j
invariant-loop-j l = Passed l.i (front l.count l.pairs) l.count l.j

abbrev pub decreases-loop-j : goal.decreases-loop-j
decreases-loop-j l = l.count - l.j
