use mathlib.Core.Path.{◌≡◌}
use Prim.Native.Nat.{◌-◌}
use native.Mathlib.Omega.{arith}
use Rattle.full_frame_parts.specs.FrontLaws.{front_none, front_more}
use Rattle.full_frame_parts.proofs.lay_part.Goals as goal

pub loop-p-init : goal.loop-p-init
loop-p-init c = (omega arith, front_none _ _)

pub loop-p-preserved : goal.loop-p-preserved
loop-p-preserved c = (omega arith, front_more c.loop-p.invariant.1 c.point_at.result (omega arith) c.point_at.ensures)

pub returns : goal.returns
returns c =
    let e : c.loop-p.p ≡ 39936 = omega arith in
    rw e at c.loop-p.invariant.1.front_is
