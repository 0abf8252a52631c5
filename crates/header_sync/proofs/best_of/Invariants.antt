use Prim.Native.Nat.{◌-◌, ◌+◌, ◌≤◌}
use Rattle.header_sync.proofs.SearchLaws.{best_at}
use Rattle.header_sync.specs.Search.{peak_by}
use mathlib.Core.Path.{◌≡◌}
use Rattle.header_sync.proofs.best_of.Given as goal

abbrev pub invariant-loop-k : goal.invariant-loop-k
invariant-loop-k l = (l.k ≤ l.count) × (l.best ≡ best_at (peak_by l.tail1 l.tail2 l.re l.im) l.from l.k) × (l.best.place ≤ l.from + l.k)

abbrev pub decreases-loop-k : goal.decreases-loop-k
decreases-loop-k l = l.count - l.k
