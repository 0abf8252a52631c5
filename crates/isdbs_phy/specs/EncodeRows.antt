-- The rows of the encoding calls, and what a refused call leaves.
use Rattle.std.specs.Prelude.{◌≡◌, List, Float}
-- the rows, which crates/isdbs_rows defines
pub use Rattle.isdbs_rows.specs.EncodeRows.{short_parts, encode_frame_rows, encode_rows}

-- refused: "no buffer changes"
pub record PartsKept (re₀ re im₀ im : List Float) : Type 0 where
  pub re_is : re ≡ re₀
  pub im_is : im ≡ im₀
