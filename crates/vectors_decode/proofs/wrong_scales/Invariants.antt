-- `wrong_scales` is safe and ends.
use Prim.Native.Nat.{◌-◌, ◌≤◌}
use Rattle.vectors_decode.proofs.wrong_scales.Given as goal

abbrev pub invariant-loop-place : goal.invariant-loop-place
invariant-loop-place l = l.place ≤ 7

abbrev pub decreases-loop-place : goal.decreases-loop-place
decreases-loop-place l = 7 - l.place
