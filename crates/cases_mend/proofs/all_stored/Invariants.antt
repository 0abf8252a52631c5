-- `all_stored` is safe and ends.
use Prim.Native.Nat.{◌-◌, ◌≤◌}
use Rattle.cases_mend.proofs.all_stored.Given as goal

abbrev pub invariant-loop-stored : goal.invariant-loop-stored
invariant-loop-stored l = l.stored ≤ 16384

abbrev pub decreases-loop-stored : goal.decreases-loop-stored
decreases-loop-stored l = 16384 - l.stored
