use Prim.Native.Nat.{◌-◌, ◌≤◌}
use lib.ListN.{get_or}
use lib.Ieee.{nan}
use Rattle.full_frame_parts.specs.FrontLaws.{Front}
use Rattle.header_align.specs.Align.{turned_im}
use Rattle.header_align.proofs.lay_im.Given as goal

abbrev pub invariant-loop-i : goal.invariant-loop-i
invariant-loop-i l = (l.i ≤ 39936) × Front (λ k. turned_im l.mean (get_or l.re k nan) (get_or l.im k nan)) l.initial.out l.out l.i

abbrev pub decreases-loop-i : goal.decreases-loop-i
decreases-loop-i l = 39936 - l.i
