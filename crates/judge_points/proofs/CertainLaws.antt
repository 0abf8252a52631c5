-- Certain: where no point lies outside the margins of a full load, no other full load fits.
use Rattle.std.specs.Prelude.{◌≡◌, Bool, List, ℕ, ◌≤◌, length, Float}
use Rattle.isdbs_tables.specs.declared.Table.{Table}
use Rattle.isdbs_frame.specs.Frame.{main_symbols}
use Rattle.isdbs_tables.specs.Tables.{TableAccepted}
use Rattle.isdbs_plan.specs.RunsOf.{load_bytes}
use Rattle.isdbs_points.specs.declared.Mapping.{Mapping}
use Rattle.isdbs_points.specs.Layout.{FullLoad}
use Rattle.margins.specs.Margins.{Within}
use Rattle.isdbs_metrics.specs.Reading.{received}
use Rattle.exact_load.specs.Exact.{one_load}
use Rattle.exact_load.specs.StrainLaws.{DecodedExactly, decoded_exactly}
use Rattle.judge_points.specs.Outside.{outside_sum}
use Rattle.judge_points.proofs.OutsideLaws.{sum_zero_within}
use Rattle.margin_ends.specs.Ends.{eight}

module _
    (t : Table) (fit : TableAccepted t) (m : Mapping) (first : Bool) (load : List ℕ) (full : FullLoad load (load_bytes t)) (re im : List Float)
    (R : main_symbols ≤ length re) (I : main_symbols ≤ length im) (none : outside_sum re im load t m first ≡ 0) where
  -- "every full load within whose margins the points lie is the given one"
  pub certain : (other : List ℕ) → FullLoad other (load_bytes t) → Within re im other t m first → other ≡ load
  certain other whole w = one_load t fit m first other load whole full re im w (sum_zero_within re im load t m first R I none)

  -- it is what decoding reads by a known start at the scale 8, and no step of that reading is strained
  pub certain_read : DecodedExactly t (received re im m eight) first load
  certain_read = decoded_exactly t fit m first load full re im (sum_zero_within re im load t m first R I none)
