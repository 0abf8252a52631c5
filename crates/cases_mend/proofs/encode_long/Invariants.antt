-- `encode_long` is safe and ends.
use Prim.Native.Nat.{◌-◌, ◌≤◌}
use Rattle.cases_mend.proofs.encode_long.Given as goal

abbrev pub invariant-loop-t : goal.invariant-loop-t
invariant-loop-t l = (l.t ≤ 4096)

abbrev pub decreases-loop-t : goal.decreases-loop-t
decreases-loop-t l = 4096 - l.t
