-- What follows from the tests of the rows.
use Rattle.std.specs.Prelude.{◌≡◌, false, ◌||◌, ℕ, ◌≤◌, ltb}
use Rattle.std.proofs.Common.{ltb-false}
use Rattle.refusal.proofs.RowLaws.{neither}
use Rattle.full_frame_parts.specs.Rows.{short_inputs, short_frame}
use Rattle.isdbs_frame.specs.Frame.{frame_symbols, main_symbols, burst_points, header_symbols}

-- one part of each input is long enough
pub record LongInputs (h m b : ℕ) : Type 0 where
  pub header_long : header_symbols ≤ h
  pub main_long : main_symbols ≤ m
  pub burst_long : burst_points ≤ b

pub inputs_long : (h m b : ℕ) → short_inputs h m b ≡ false → LongInputs h m b
unfolding short_inputs
inputs_long h m b e =
    let p = neither (ltb h header_symbols) (ltb m main_symbols || ltb b burst_points) e in
    let q = neither (ltb m main_symbols) (ltb b burst_points) p.1 in
    record { header_long = ltb-false h header_symbols p.0; main_long = ltb-false m main_symbols q.0; burst_long = ltb-false b burst_points q.1 }

-- both parts of a frame are
pub record LongFrame (re im : ℕ) : Type 0 where
  pub re_long : frame_symbols ≤ re
  pub im_long : frame_symbols ≤ im

pub frame_long : (re im : ℕ) → short_frame re im ≡ false → LongFrame re im
unfolding short_frame
frame_long re im e =
    let p = neither (ltb re frame_symbols) (ltb im frame_symbols) e in
    record { re_long = ltb-false re frame_symbols p.0; im_long = ltb-false im frame_symbols p.1 }
