-- `values` meets its contract.
use mathlib.Core.Path.{◌≡◌}
use Prim.Native.Nat.{◌-◌, ◌≤◌}
use lib.ListN.{length}
use Rattle.cases_best_content.proofs.Laws.{Ups}
use Rattle.cases_best_content.proofs.values.Given as goal

abbrev pub invariant-loop-k : goal.invariant-loop-k
invariant-loop-k l = (l.k ≤ 40) × (length l.xs ≡ 40) × Ups l.xs l.sides l.k

abbrev pub decreases-loop-k : goal.decreases-loop-k
decreases-loop-k l = 40 - l.k
