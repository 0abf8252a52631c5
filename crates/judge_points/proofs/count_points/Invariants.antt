-- `count_points` meets its contract.
use mathlib.Core.Path.{◌≡◌}
use Prim.Native.Nat.{◌-◌, ◌≤◌}
use lib.ListN.{length}
use Rattle.judge_points.specs.Given.{given_at, Counted}
use Rattle.judge_points.proofs.count_points.Given as goal

abbrev pub invariant-loop-i : goal.invariant-loop-i
invariant-loop-i l = (l.i ≤ l.n) × (length l.counts ≡ length l.initial.counts) × Counted (given_at l.list l.xs l.ys l.re l.im l.from) l.from l.i l.initial.counts l.counts l.sum

abbrev pub decreases-loop-i : goal.decreases-loop-i
decreases-loop-i l = l.n - l.i
