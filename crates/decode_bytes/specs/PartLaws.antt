-- A run as a part of a frame: what is read of the parts from its first symbol and step on is what the frame has there.
use Rattle.std.specs.Prelude.{◌≡◌, refl, List, ℕ, ◌+◌, ◌*◌, ◌/◌, ◌%◌, eqb, ltb, get_or, drop, Float}
use Rattle.std.proofs.Common.{◌∙◌, zero-add, get_or-drop}
use Rattle.std.proofs.Math.Path.{ap}
use Rattle.std.proofs.Math.Bool.{cond}
use Rattle.std.proofs.Math.ListN.{length}
use Rattle.std.specs.Float.Ieee.{nan, lt, binary32, of_bits}
use Rattle.isdbs_combination.specs.declared.Combination.{Combination}
use Rattle.isdbs_combination.specs.declared.Modulation.{Modulation}
use Rattle.isdbs_combination.specs.declared.Modulation.TheVariants.{Bpsk, Qpsk, Tc8psk}
use Rattle.isdbs_plan.specs.declared.Run.{Run}
use Rattle.isdbs_combination.specs.Combinations.{modulation_of}
use Rattle.isdbs_points.specs.declared.Cplx.{Cplx}
use Rattle.isdbs_points.specs.declared.Mapping.{Mapping}
use Rattle.isdbs_points.specs.Points.{psk8_of, subset, zero64}
use Rattle.isdbs_points.specs.Layout.{segment_of, order_of, steps_per_period}
use Rattle.trellis.specs.Lists.{first_place}
use Rattle.isdbs_points.specs.Pieces.{piece}
use Rattle.isdbs_points.specs.Frame.{label_at}
use Rattle.isdbs_metrics.specs.Reading.{Received, correlation, carrier, soft_at, scaled, pair_metrics, subset_metrics, metrics_by, metrics_in, bit_by, bit_in, uncoded, received_at, received}
use Rattle.isdbs_metrics.specs.Steps.{piece_metrics, piece_bit}
use Rattle.decode_bytes.specs.Bytes.{received_with}

-- a symbol of a part
symbol_part : (re im : List Float) (m : Mapping) (a : Float) (scales : Combination → Float) (s i : ℕ) → received_at (received (drop s re) (drop s im) m a) (0 + i) ≡ received_at (received_with re im m scales) (s + i)
symbol_part re im m a scales s i =
    rw (zero-add i, get_or-drop s re i nan, get_or-drop s im i nan)

module _ (re im : List Float) (m : Mapping) (scales : Combination → Float) (r : Run) (step bit k : ℕ) where
  -- the scale of the run
  abbrev scale : Float
  scale = scales r.combination

  abbrev part : Received
  part = received (drop r.symbol_start re) (drop r.symbol_start im) m scale

  abbrev whole : Received
  whole = received_with re im m scales

  carrier_part : (o : Modulation) (i : ℕ) → carrier o part (piece r.combination 0) i ≡ carrier o whole (segment_of r step bit) i
  carrier_part Bpsk i = ap (λ (z : Cplx). z.re) (symbol_part re im m scale scales r.symbol_start i)
  carrier_part Qpsk i =
      ap (λ (z : Cplx). cond (eqb (i % 2) (Rattle.trellis.specs.Lists.bit m.qpsk_p1_on_q)) z.re z.im) (symbol_part re im m scale scales r.symbol_start (i / 2))
  carrier_part Tc8psk i = refl

  soft_part_lem : (b : ℕ) → soft_at part (piece r.combination 0) k b ≡ soft_at whole (segment_of r step bit) k b
  unfolding soft_at
  soft_part_lem b =
      let c = r.combination in
      let n = length (order_of c) in
      let i = first_place (2 * (k % steps_per_period c) + b) (order_of c) in
      ap (λ (x : Float). cond (ltb i n) (scaled whole (segment_of r step bit) x) (of_bits binary32 0)) (carrier_part (modulation_of c) (k / steps_per_period c * n + i))

  by_modulation : (o : Modulation) → metrics_by o part (piece r.combination 0) k ≡ metrics_by o whole (segment_of r step bit) k
  unfolding metrics_by
  by_modulation Bpsk =
      ap (λ (x : Float). pair_metrics x (soft_at part (piece r.combination 0) k 1)) (soft_part_lem 0)
      ∙ ap (λ (x : Float). pair_metrics (soft_at whole (segment_of r step bit) k 0) x) (soft_part_lem 1)
  by_modulation Qpsk =
      ap (λ (x : Float). pair_metrics x (soft_at part (piece r.combination 0) k 1)) (soft_part_lem 0)
      ∙ ap (λ (x : Float). pair_metrics (soft_at whole (segment_of r step bit) k 0) x) (soft_part_lem 1)
  by_modulation Tc8psk =
      ap (λ (z : Cplx). subset_metrics whole (segment_of r step bit) z) (symbol_part re im m scale scales r.symbol_start k)

  -- the metrics of step k of a run
  pub metrics_part : piece_metrics r.combination (drop r.symbol_start re) (drop r.symbol_start im) m scale k ≡ metrics_in whole (segment_of r step bit) k
  metrics_part = by_modulation (modulation_of r.combination)

-- bit i of a run's bytes
module _ (re im : List Float) (m : Mapping) (scales : Combination → Float) (r : Run) (step bit s : ℕ) (at : ℕ → ℕ) (us : List ℕ) (i : ℕ) where
  bit_by_lem : (o : Modulation) → (o ≡ Tc8psk → label_at s (drop step us) (i / 2) ≡ at (step + i / 2))
      → bit_by o (received (drop r.symbol_start re) (drop r.symbol_start im) m nan) (label_at s (drop step us)) (drop step us) (piece r.combination 0) i
      ≡ bit_by o (received_with re im m scales) at us (segment_of r step bit) i
  unfolding bit_by
  bit_by_lem Bpsk h = rw (zero-add i) (get_or-drop step us i 0)
  bit_by_lem Qpsk h = rw (zero-add i) (get_or-drop step us i 0)
  bit_by_lem Tc8psk h =
      let j = i / 2 in
      ap (λ (z : Cplx). cond (eqb (i % 2) 0) (Rattle.trellis.specs.Lists.bit (lt (correlation z (psk8_of (subset m.tc8psk_c1_is_y (label_at s (drop step us) (0 + j))))) zero64)) (get_or (drop step us) (0 + j) 0)) (symbol_part re im m nan scales r.symbol_start j)
      ∙ ap (λ (x : ℕ). cond (eqb (i % 2) 0) (Rattle.trellis.specs.Lists.bit (lt (correlation (received_at (received_with re im m scales) (r.symbol_start + j)) (psk8_of (subset m.tc8psk_c1_is_y (label_at s (drop step us) x)))) zero64)) (get_or (drop step us) x 0)) (zero-add j)
      ∙ ap (λ (x : ℕ). cond (eqb (i % 2) 0) (Rattle.trellis.specs.Lists.bit (lt (correlation (received_at (received_with re im m scales) (r.symbol_start + j)) (psk8_of (subset m.tc8psk_c1_is_y x))) zero64)) (get_or (drop step us) j 0)) (h refl)
      ∙ ap (λ (x : ℕ). cond (eqb (i % 2) 0) (uncoded (received_with re im m scales) at (segment_of r step bit) j) x) (get_or-drop step us j 0)

  -- bit i of a run's bytes is the frame's
  pub bit_part : (modulation_of r.combination ≡ Tc8psk → label_at s (drop step us) (i / 2) ≡ at (step + i / 2))
      → piece_bit r.combination (drop r.symbol_start re) (drop r.symbol_start im) m s (drop step us) i ≡ bit_in (received_with re im m scales) at us (segment_of r step bit) i
  bit_part h = bit_by_lem (modulation_of r.combination) h
