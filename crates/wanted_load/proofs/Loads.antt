-- What is read into the front of a slice is the load that the frame shows.
use mathlib.Core.Path.{◌≡◌}
use mathlib.Core.Bool.{Bool}
use mathlib.Core.List.{List}
use Prim.Native.Nat.{ℕ, ◌-◌}
use native.Mathlib.Omega.{arith}
use lib.ListN.{take}
use lib.Ieee.{Float}
use Rattle.trellis.specs.Lists.{upto, laid}
use Rattle.isdbs_tables.specs.declared.Table.{Table}
use Rattle.isdbs_plan.specs.RunsOf.{load_bytes}
use Rattle.isdbs_points.specs.declared.Mapping.{Mapping}
use Rattle.isdbs_points.specs.Frame.{start_state}
use Rattle.isdbs_metrics.specs.FrameRunLaws.{front_is}
use Rattle.wanted_read.specs.ReadOff.{read_off}
use Rattle.wanted_read.specs.Only.{read_off_full}
use Rattle.wanted_read.specs.Pieces.{frame_byte}

pub read_is : (t : Table) (m : Mapping) (first : Bool) (re im : List Float) (s n : ℕ) (load w : List ℕ) → s ≡ start_state first → n ≡ load_bytes t
    → load ≡ laid (upto (frame_byte t m re im s) (load_bytes t)) w → take (n - 0) load ≡ read_off t m first re im
unfolding read_off
read_is t m first re im s n load w es en e =
    front_is load (read_off t m first re im) w (n - 0) (rw es at e) (omega (arith, en, (read_off_full t m first re im).size))
