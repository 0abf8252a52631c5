-- `marked_before` meets its contract.
use Prim.Native.Nat.{◌-◌, ◌≤◌}
use Rattle.isdbs_core.specs.Symbols.{marked_before}
use mathlib.Core.Path.{◌≡◌}
use Rattle.isdbs_core.proofs.slots.marked_before.Given as goal

abbrev pub invariant-loop-j : goal.invariant-loop-j
invariant-loop-j l = (l.j ≤ l.k) × (l.n ≤ l.j) × (l.n ≡ marked_before l.c l.j)

abbrev pub decreases-loop-j : goal.decreases-loop-j
decreases-loop-j l = l.k - l.j
