-- The bytes of a frame from its decoded bits.
use Rattle.std.specs.Prelude.{List, ℕ, ◌+◌, ◌*◌, Float}
use Rattle.isdbs_combination.specs.declared.Combination.{Combination}
use Rattle.isdbs_tables.specs.declared.Table.{Table}
use Rattle.isdbs_points.specs.declared.Mapping.{Mapping}
use Rattle.isdbs_points.specs.Layout.{at_bit, byte_of}
use Rattle.isdbs_points.specs.Frame.{label_at}
use Rattle.isdbs_metrics.specs.Reading.{Received, bit_in}

-- points as they are lent, with a scale for each combination
abbrev pub received_with : List Float → List Float → Mapping → (Combination → Float) → Received
received_with re im m scale = record { re = re; im = im; mapping = m; scale = scale }

-- byte j of a frame from the decoded bits us, encoded again from the state s
abbrev pub byte_at : Table → Received → ℕ → List ℕ → ℕ → ℕ
byte_at t r s us j = byte_of (λ i. at_bit 0 (bit_in r (label_at s us) us) t (8 * j + i))
