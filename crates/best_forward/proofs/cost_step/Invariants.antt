use mathlib.Core.Path.{◌≡◌}
use Prim.Native.Nat.{◌-◌, ◌≤◌}
use Rattle.best_forward.specs.Room.{listed}
use Rattle.best_forward.proofs.Ways.{Stepped}
use Rattle.best_forward.proofs.cost_step.Given as goal

abbrev pub invariant-loop-j : goal.invariant-loop-j
invariant-loop-j l = (l.n ≡ 64) × (l.j-end ≡ 32) × (l.j ≤ 32) × (l.old ≡ l.initial.d) × Stepped l.initial.d (listed l.m) l.j l.d l.low l.high

abbrev pub decreases-loop-j : goal.decreases-loop-j
decreases-loop-j l = 32 - l.j
