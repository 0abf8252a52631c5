use Prim.Native.Nat.{◌-◌}
use Rattle.full_frame_parts.specs.FrontLaws.{front_none, front_more}
use Rattle.header_align.specs.Align.{turned_re}
use native.Mathlib.Omega.{arith}
use mathlib.Core.Path.{◌≡◌}
use Rattle.header_align.proofs.lay_re.Goals as goal

pub loop-i-init : goal.loop-i-init
loop-i-init c = (omega arith, front_none _ _)

pub loop-i-preserved : goal.loop-i-preserved
loop-i-preserved c = (omega arith, front_more c.loop-i.invariant.1 c.turned_re.result (omega arith) c.turned_re.ensures)

pub returns : goal.returns
returns c =
    let e : c.loop-i.i ≡ 39936 = omega arith in
    rw e at c.loop-i.invariant.1.front_is
