-- `run_marks` meets its contract.
use mathlib.Core.Path.{◌≡◌}
use Prim.Native.Nat.{ℕ, ◌+◌, ◌-◌, ◌*◌, ◌≤◌}
use Rattle.trellis.specs.Lists.{upto, laid}
use Rattle.best_bytes.proofs.run_marks.Given as goal

abbrev pub mark_from : ℕ → ℕ → ℕ → ℕ
mark_from step steps k = step + steps * k

abbrev pub invariant-loop-k : goal.invariant-loop-k
invariant-loop-k l = (l.k ≤ l.n) × (l.at ≡ l.step + l.steps * l.k) × (l.marks ≡ laid (upto (mark_from l.step l.steps) l.k) l.initial.marks)

abbrev pub decreases-loop-k : goal.decreases-loop-k
decreases-loop-k l = l.n - l.k
