-- The points of a received frame outside the margins of a load. The verdict: "for each of the frame's 48 slots (812 symbols each) the number of points with a part
-- outside its margin, and their sum". The margins are demand 3's own (crate margins). Definitions only.
use Rattle.std.specs.Prelude.{Bool, not, ◌&&◌, List, ℕ, ◌+◌, ◌*◌, get_or, Float}
use Rattle.std.specs.Float.{nan}
use Rattle.trellis.specs.Lists.{upto}
use Rattle.isdbs_combination.specs.Combinations.{slot_symbols, frame_slots}
use Rattle.isdbs_tables.specs.declared.Table.{Table}
use Rattle.isdbs_points.specs.declared.Mapping.{Mapping}
use Rattle.isdbs_points.specs.Frame.{point_at, start_state}
use Rattle.margins.specs.Margins.{holds, free_re, free_im}
use Rattle.strain_marks.specs.Counts.{summed, counted}

-- Slot j of the frame has the symbols 812 j to 812 j + 811 of the main signal, whatever the table has there.
module _ (re im : List Float) (load : List ℕ) (t : Table) (m : Mapping) (first : Bool) where
  -- a part of point k keeps the margin of the same part of the load's frame, as `Within` asks
  abbrev pub re_holds : ℕ → Bool
  re_holds k = holds (free_re t k) (point_at t m load (start_state first) k).re (get_or re k nan)

  abbrev pub im_holds : ℕ → Bool
  im_holds k = holds (free_im t k) (point_at t m load (start_state first) k).im (get_or im k nan)

  -- point k has a part outside its margin
  abbrev pub outside : ℕ → Bool
  outside k = not (re_holds k && im_holds k)

  -- how many points of slot j have
  unfoldable pub outside_of : ℕ → ℕ
  outside_of j = counted (λ i. outside (slot_symbols * j + i)) slot_symbols

  -- the counts of all slots, and their sum
  abbrev pub outside_counts : List ℕ
  outside_counts = upto outside_of frame_slots

  abbrev pub outside_sum : ℕ
  outside_sum = summed outside_of frame_slots
