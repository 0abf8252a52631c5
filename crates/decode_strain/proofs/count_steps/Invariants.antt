-- `count_steps` meets its contract.
use Prim.Native.Nat.{◌-◌, ◌≤◌}
use Rattle.decode_strain.specs.Counted.{Counted}
use Rattle.decode_strain.specs.CountingLaws.{slot}
use Rattle.decode_strain.proofs.count_steps.Given as goal

abbrev pub invariant-loop-i : goal.invariant-loop-i
invariant-loop-i l = (l.i ≤ l.n) × Counted l.marks l.bits l.start l.i (slot l.count l.state)

abbrev pub decreases-loop-i : goal.decreases-loop-i
decreases-loop-i l = l.n - l.i
