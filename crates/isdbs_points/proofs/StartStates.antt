-- The two start states.
use Prim.Native.Nat.{◌<◌}
use lib.Dec.{lit<}
use Rattle.trellis.specs.Lists.{upto}
use Rattle.trellis.specs.Code.{state_at}
use Rattle.isdbs_points.specs.Frame.{state_after}
use Rattle.isdbs_frame.specs.Frame.{w2, w3}

-- the start states, example A: 0 and 63
pub after_w2 : state_after w2 < 64
unfolding state_after state_at upto
after_w2 = lit< tt

pub after_w3 : state_after w3 < 64
unfolding state_after state_at upto
after_w3 = lit< tt
