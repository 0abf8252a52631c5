use mathlib.Core.Path.{◌≡◌}
use Prim.Native.Nat.{◌-◌, ◌*◌, ◌≤◌}
use Rattle.best_forward.specs.Room.{listed}
use Rattle.best_backward.proofs.Steps.{Stepped}
use Rattle.best_backward.proofs.back_step.Given as goal

abbrev pub invariant-loop-j : goal.invariant-loop-j
invariant-loop-j l = (l.n ≡ 64) × (l.j-end ≡ 32) × (l.j ≤ 32) × (l.after ≡ l.initial.b) × (l.differing ≡ l.initial.d) × Stepped l.initial.b l.initial.d (listed l.low) (listed l.kept) (listed l.turned) l.u (2 * l.j) l.b l.d

abbrev pub decreases-loop-j : goal.decreases-loop-j
decreases-loop-j l = 32 - l.j
