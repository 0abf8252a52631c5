-- `take_input` meets its contract.
use Rattle.full_frame_parts.specs.FrontLaws.{Front}
use Rattle.full_frame_parts.specs.Places.{from, place_in}
use lib.Ieee.{nan}
use lib.ListN.{get_or}
use Prim.Native.Nat.{◌-◌, ◌≤◌}
use Rattle.full_frame_parts.proofs.take_input.Given as goal

abbrev pub invariant-loop-i : goal.invariant-loop-i
invariant-loop-i l = (l.i ≤ l.n) × Front (λ k. get_or l.full (place_in (from l.input k)) nan) l.initial.out l.out l.i

abbrev pub decreases-loop-i : goal.decreases-loop-i
decreases-loop-i l = l.n - l.i
