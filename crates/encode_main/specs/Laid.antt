-- What encoding a frame leaves.
use Rattle.std.specs.Prelude.{◌≡◌, List, ℕ, Float}
use Rattle.trellis.specs.Lists.{laid}
use Rattle.isdbs_tables.specs.declared.Table.{Table}
use Rattle.isdbs_points.specs.declared.Mapping.{Mapping}
use Rattle.isdbs_points.specs.Frame.{frame_re, frame_im}

-- accepted: the frame lies over the beginning of the lent parts; what stands past its 38,976 points is as before
pub record FrameLaid (t : Table) (m : Mapping) (load : List ℕ) (s : ℕ) (re₀ re im₀ im : List Float) : Type 0 where
  pub re_is : re ≡ laid (frame_re t m load s) re₀
  pub im_is : im ≡ laid (frame_im t m load s) im₀
