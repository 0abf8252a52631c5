-- A run by itself: what the functions that make its metrics and its bytes give. Slices start at the run's first symbol, step and byte.
--
use Rattle.std.specs.Prelude.{◌≡◌, List, ℕ, zero, suc, ◌+◌, ◌*◌, ◌/◌, ◌%◌, ◌<◌, ◌≤◌, get_or, length, Float}
use Rattle.std.specs.Float.{nan}
use Rattle.isdbs_combination.specs.declared.Combination.{Combination}
use Rattle.isdbs_combination.specs.declared.Modulation.{Modulation}
use Rattle.isdbs_combination.specs.declared.Modulation.TheVariants.{Bpsk, Qpsk, Tc8psk}
use Rattle.isdbs_combination.specs.Combinations.{modulation_of}
use Rattle.isdbs_points.specs.declared.Mapping.{Mapping}
use Rattle.isdbs_metrics.specs.declared.PeriodLayout.{PeriodLayout}
use Rattle.isdbs_points.specs.Points.{point, conjugated}
use Rattle.isdbs_points.specs.Layout.{order_of, steps_per_period}
use Rattle.trellis.specs.Lists.{first_place}
use Rattle.isdbs_points.specs.Pieces.{piece}
use Rattle.isdbs_points.specs.Frame.{label_at}
use Rattle.isdbs_metrics.specs.Reading.{Received, part_of, metrics_in, bit_in, received}

-- the part of a QPSK run's points that carries the coded bit sent i-th
abbrev pub qpsk_part : List Float → List Float → Mapping → ℕ → Float
qpsk_part re im m i =
    part_of m.qpsk_p1_on_q (point (get_or re (i / 2) nan) (conjugated m.conjugate (get_or im (i / 2) nan))) (i % 2)

-- the modulation, the steps and the sent mother bits of a period, and the place of each mother bit among those sent
pub record LayoutOf (r : PeriodLayout) : Type 0 where
  pub modulation : r.modulation ≡ modulation_of r.combination
  pub period : r.period ≡ steps_per_period r.combination
  pub count : r.count ≡ length (order_of r.combination)
  pub places : (a : ℕ) → a < 2 * steps_per_period r.combination → get_or r.places a 0 ≡ first_place a (order_of r.combination)

-- the points of step k lie among the first n
abbrev pub ReachesBy : Modulation → Combination → ℕ → ℕ → Type 0
ReachesBy Bpsk c k n = 2 * k + 2 ≤ n
ReachesBy Qpsk c k n = k / steps_per_period c * length (order_of c) + length (order_of c) ≤ 2 * n
ReachesBy Tc8psk c k n = k < n

abbrev pub Reaches : Combination → ℕ → ℕ → Type 0
Reaches c k n = ReachesBy (modulation_of c) c k n

-- and those of its first `steps` steps
abbrev pub Covers : Combination → ℕ → ℕ → Type 0
Covers c steps n = (k : ℕ) → k < steps → Reaches c k n

-- the metrics of step k of a run
abbrev pub piece_metrics : Combination → List Float → List Float → Mapping → Float → ℕ → List Float
piece_metrics c re im m scale k = metrics_in (received re im m scale) (piece c 0) k

-- bit i of a run's bytes, from its decoded bits us and the encoder's state s before them
abbrev pub piece_bit : Combination → List Float → List Float → Mapping → ℕ → List ℕ → ℕ → ℕ
piece_bit c re im m s us i = bit_in (received re im m nan) (label_at s us) us (piece c 0) i

-- the first n of a list are bits
abbrev pub Bits : List ℕ → ℕ → Type 0
Bits us n = (i : ℕ) → i < n → get_or us i 0 < 2

-- the number whose first n binary digits, the highest first, are f 0, f 1, ..
unfoldable pub digits : (ℕ → ℕ) → ℕ → ℕ
digits f zero = 0
digits f (suc n) = 2 * digits f n + f n

-- the steps that give n bytes of a run
abbrev pub steps_of_bytes_by : Modulation → ℕ → ℕ
steps_of_bytes_by Bpsk n = 8 * n
steps_of_bytes_by Qpsk n = 8 * n
steps_of_bytes_by Tc8psk n = 4 * n

abbrev pub steps_of_bytes : Combination → ℕ → ℕ
steps_of_bytes c n = steps_of_bytes_by (modulation_of c) n

-- the decoded bits, and of TC8PSK the points, that give n bytes of a run
abbrev pub PackRoomBy : Modulation → ℕ → ℕ → ℕ → ℕ → List ℕ → Type 0
PackRoomBy Bpsk n re im len us = (8 * n ≤ len) × Bits us (8 * n)
PackRoomBy Qpsk n re im len us = (8 * n ≤ len) × Bits us (8 * n)
PackRoomBy Tc8psk n re im len us = (4 * n ≤ re) × (4 * n ≤ im) × (4 * n ≤ len) × Bits us (4 * n)

abbrev pub PackRoom : Combination → ℕ → ℕ → ℕ → ℕ → List ℕ → Type 0
PackRoom c n re im len us = PackRoomBy (modulation_of c) n re im len us
