use Rattle.full_frame_parts.specs.FrontLaws.{front_none, front_more}
use Rattle.full_frame_parts.specs.Places.{points_of}
use lib.Ieee.{nan}
use lib.ListN.{get_or}
use native.Mathlib.Omega.{arith}
use Prim.Native.Nat.{ℕ, ◌-◌}
use mathlib.Core.Path.{◌≡◌, ap}
use Rattle.full_frame_parts.proofs.take_input.Goals as goal

pub loop-i-init : goal.loop-i-init
loop-i-init c = (omega arith, front_none _ _)

pub loop-i-preserved : goal.loop-i-preserved
loop-i-preserved c =
    let full = c.args.full.now in
    (omega arith, front_more c.loop-i.invariant.1 _ (omega arith) (ap (λ (p : ℕ). get_or full p nan) c.place-p.ensures.0))

pub returns : goal.returns
returns c =
    let e : c.loop-i.i ≡ points_of c.args.input = omega arith in
    rw e at c.loop-i.invariant.1.front_is
