-- `compare_slots` is safe and ends; at most all bytes agree.
use Prim.Native.Nat.{◌-◌, ◌≤◌, ◌*◌}
use Rattle.bench_compare.proofs.compare_slots.Given as goal

abbrev pub invariant-loop-k : goal.invariant-loop-k
invariant-loop-k l = (l.n ≤ 203 * l.k) × (l.k ≤ l.v)

abbrev pub decreases-loop-k : goal.decreases-loop-k
decreases-loop-k l = l.v - l.k
