-- The quality of a reading: "seven numbers for each of the frame's 48 slots of 812 symbols, z being the received and c the encoded point of the bytes: how many points are counted, and the sums
-- of |c|^2, of |z - c|^2, of the real and the imaginary part of z conj(c), of the real and the imaginary part of z - c; over the slot's symbols in order, begun at 0, each operation rounded once".
-- Definitions only.
use Rattle.std.specs.Prelude.{Bool, cond, List, ℕ, zero, suc, ◌+◌, ◌*◌, ◌/◌, ◌%◌, get_or, Float}
use Rattle.std.specs.Float.{nan, binary64}
use Rattle.std.specs.Float.Ieee.{add}
use Rattle.trellis.specs.Lists.{upto}
use Rattle.isdbs_combination.specs.Combinations.{slot_symbols}
use Rattle.isdbs_tables.specs.declared.Table.{Table}
use Rattle.isdbs_points.specs.declared.Cplx.{Cplx}
use Rattle.isdbs_points.specs.declared.Mapping.{Mapping}
use Rattle.isdbs_points.specs.Points.{zero64}
use Rattle.isdbs_points.specs.Frame.{point_at, start_state}
use Rattle.margins.specs.Margins.{free_re, free_im}
use Rattle.quality_sums.specs.Terms.{terms_of, imaginary, slot_numbers, quality_numbers}

-- Slot j of the frame has the symbols 812 j to 812 j + 811 of the main signal, whatever the table has there.
module _ (re im : List Float) (load : List ℕ) (t : Table) (m : Mapping) (first : Bool) where
  -- point k of the frame of the bytes
  abbrev pub encoded : ℕ → Cplx
  encoded k = point_at t m load (start_state first) k

  -- what symbol k adds to the seven; a run's symbols have free imaginary parts exactly where it is BPSK
  abbrev pub terms_at : ℕ → List Float
  terms_at k = terms_of (get_or re k nan) (imaginary (free_im t k) (get_or im k nan)) (encoded k).re (imaginary (free_im t k) (encoded k).im)

  -- number q of slot j over its first n symbols; "A symbol outside every run is not counted": nothing is added, the sum stays as it is
  unfoldable pub slot_sum : ℕ → ℕ → ℕ → Float
  slot_sum j q zero = zero64
  slot_sum j q (suc n) = cond (free_re t (slot_symbols * j + n)) (slot_sum j q n) (add binary64 (slot_sum j q n) (get_or (terms_at (slot_symbols * j + n)) q nan))

  -- the seven of slot 0, then those of slot 1, and so on
  abbrev pub qualities : List Float
  qualities = upto (λ i. slot_sum (i / slot_numbers) (i % slot_numbers) slot_symbols) quality_numbers
