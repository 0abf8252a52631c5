-- `plan_of` meets its contract: the runs of the entries passed are laid.
use Prim.Native.Nat.{◌*◌, ◌-◌, ◌≤◌}
use Rattle.isdbs_plan.proofs.Built.{Built}
use Rattle.isdbs_plan.proofs.plan_of.Given as goal

abbrev pub invariant-loop-i : goal.invariant-loop-i
invariant-loop-i l = (l.i ≤ 4) × (l.slot ≤ 255 * l.i) × (l.symbol ≤ 207060 * l.i) × (l.valid_slots ≤ 255 * l.i) × (l.steps ≤ 362355 * l.i) × Built l.t.entries l.i l.count l.slot l.symbol l.valid_slots l.steps l.runs

abbrev pub decreases-loop-i : goal.decreases-loop-i
decreases-loop-i l = 4 - l.i
