-- `lay_part` meets its contract.
use Prim.Native.Nat.{◌-◌, ◌≤◌}
use Rattle.full_frame_parts.specs.Places.{source_at, lent_inputs, lent_point}
use Rattle.full_frame_parts.specs.FrontLaws.{Front}
use Rattle.full_frame_parts.proofs.lay_part.Given as goal

abbrev pub invariant-loop-p : goal.invariant-loop-p
invariant-loop-p l = (l.p ≤ 39936) × Front (λ k. lent_point (lent_inputs l.header l.signal l.bursts) (source_at k)) l.initial.out l.out l.p

abbrev pub decreases-loop-p : goal.decreases-loop-p
decreases-loop-p l = 39936 - l.p
