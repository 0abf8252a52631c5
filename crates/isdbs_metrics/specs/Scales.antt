-- The scales of a frame, one for each combination. Document 02, P3.
use Rattle.std.specs.Prelude.{List, ◌-◌, get_or, Float}
use Rattle.std.specs.Float.{nan}
use Rattle.isdbs_combination.specs.declared.Combination.{Combination}
use Rattle.isdbs_combination.specs.Combinations.{word_of}
use Rattle.isdbs_points.specs.declared.Mapping.{Mapping}
use Rattle.isdbs_metrics.specs.Reading.{Received}

-- "seven scales in the order of words 1 to 7"
abbrev pub scale_of : List Float → Combination → Float
scale_of scales c = get_or scales (word_of c - 1) nan

-- points as they are lent; "each run's steps take the scale of its combination"
abbrev pub received_by : List Float → List Float → Mapping → List Float → Received
received_by re im m scales = record { re = re; im = im; mapping = m; scale = scale_of scales }
