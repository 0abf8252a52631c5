-- `check_all` is safe and ends: each turn takes one word more, and at most one frame more is wrong.
use Prim.Native.Nat.{◌-◌, ◌+◌, ◌≤◌}
use Rattle.bench_check.proofs.check_all.Given as goal

abbrev pub invariant-loop-i : goal.invariant-loop-i
invariant-loop-i l = (5 ≤ l.i) × (l.i ≤ l.words) × (l.wrong + 5 ≤ l.i)

abbrev pub decreases-loop-i : goal.decreases-loop-i
decreases-loop-i l = l.words - l.i
