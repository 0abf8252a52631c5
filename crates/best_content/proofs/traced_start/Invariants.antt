use mathlib.Core.Path.{◌≡◌}
use Prim.Native.Nat.{◌-◌, ◌≤◌, ◌<◌}
use lib.ListN.{take}
use Rattle.trellis.specs.Step.{back}
use Rattle.best_content.proofs.traced_start.Given as goal

abbrev pub invariant-loop-t : goal.invariant-loop-t
invariant-loop-t l = (l.t ≤ l.n) × (l.s < 64) × (l.s ≡ back 32 (take l.n l.decisions) l.n l.state (l.n - l.t))
