-- The reading of a received frame. Document 01, "A capture enters `decode_frame`" and "Runs and points".
use Rattle.std.specs.Prelude.{Bool, false, cond, List, [], ◌∷◌, ℕ, ◌+◌, ◌*◌, ◌/◌, ◌%◌, get_or, length, eqb, ltb, Float}
use Rattle.std.specs.Float.{nan, inf, fin, binary32, binary64}
use Rattle.std.specs.Float.Ieee.{neg, add, sub, mul, lt, of_bits}
use Rattle.trellis.specs.Isdb.{frame_traceback, call, steps, flush}
use Rattle.trellis.specs.Lists.{upto, bit, first_place}
use Rattle.trellis.specs.Step.{Step, four, known}
use Rattle.trellis.specs.Run.{fresh_from, start_at, start_unknown}
use Rattle.isdbs_combination.specs.declared.Combination.{Combination}
use Rattle.isdbs_combination.specs.declared.Modulation.{Modulation}
use Rattle.isdbs_combination.specs.declared.Modulation.TheVariants.{Bpsk, Qpsk, Tc8psk}
use Rattle.isdbs_tables.specs.declared.Table.{Table}
use Rattle.isdbs_combination.specs.Combinations.{modulation_of}
use Rattle.isdbs_plan.specs.RunsOf.{frame_steps, load_bytes}
use Rattle.isdbs_points.specs.declared.Cplx.{Cplx}
use Rattle.isdbs_points.specs.declared.Mapping.{Mapping}
use Rattle.ieee_cast.specs.Soft.{soft_of}
use Rattle.isdbs_points.specs.Points.{point, zero64, psk8_of, subset, conjugated}
use Rattle.isdbs_points.specs.Layout.{Segment, order_of, steps_per_period, at_step, at_bit, byte_of, word_bit}
use Rattle.isdbs_points.specs.Frame.{label_at, start_state}
use Rattle.trellis.specs.Isdb
use Rattle.isdbs_frame.specs.Frame.{w1, sync_bits}

-- a received frame as it is lent, its mapping, and the scale for each combination
pub record Received : Type 0 where
  pub re : List Float
  pub im : List Float
  pub mapping : Mapping
  pub scale : Combination → Float

-- with one scale for every combination
abbrev pub received : List Float → List Float → Mapping → Float → Received
received re im m scale = record { re = re; im = im; mapping = m; scale = λ c. scale }

-- symbol k as it is read: "`conjugate` negates every imaginary part"
abbrev pub received_at : Received → ℕ → Cplx
received_at r k = point (get_or r.re k nan) (conjugated r.mapping.conjugate (get_or r.im k nan))

-- "Soft values l are `soft(part)` × scale in f32"
abbrev pub scaled : Received → Segment → Float → Float
scaled r g x = mul binary32 (soft_of x) (r.scale g.combination)

-- ---- BPSK and QPSK
-- the part of a symbol that carries p1 (h = 0) or p0 (h = 1)
abbrev pub part_of : Bool → Cplx → ℕ → Float
part_of reverse z h = cond (eqb h (bit reverse)) z.re z.im

-- the part that carries the coded bit which the segment sends i-th: one a symbol in BPSK, two in QPSK
abbrev pub carrier : Modulation → Received → Segment → ℕ → Float
carrier Bpsk r g i = (received_at r (g.symbol + i)).re
carrier Qpsk r g i = part_of r.mapping.qpsk_p1_on_q (received_at r (g.symbol + i / 2)) (i % 2)
carrier Tc8psk r g i = nan

-- the soft value of X (b = 0) or Y (b = 1) at step k of a segment; "Erased soft values are 0"
unfoldable pub soft_at : Received → Segment → ℕ → ℕ → Float
soft_at r g k b =
    let c = g.combination in
    let n = length (order_of c) in
    let i = first_place (2 * (k % steps_per_period c) + b) (order_of c) in
    cond (ltb i n) (scaled r g (carrier (modulation_of c) r g (k / steps_per_period c * n + i))) (of_bits binary32 0)

-- "a four-metric step with lx+ly, lx−ly, −lx+ly, −lx−ly, each rounded, at 2X+Y"
abbrev pub pair_metrics : Float → Float → List Float
pair_metrics lx ly = add binary32 lx ly ∷ sub binary32 lx ly ∷ add binary32 (neg lx) ly ∷ sub binary32 (neg lx) ly ∷ []

-- ---- TC8PSK
-- "(v × conj p).re is v.re×p.re + v.im×p.im, each operation rounded once"
abbrev pub correlation : Cplx → Cplx → Float
correlation v p = add binary64 (mul binary64 v.re p.re) (mul binary64 v.im p.im)

abbrev pub absolute : Float → Float
absolute nan = nan
absolute (inf s) = inf false
absolute (fin s m e) = fin false m e

-- the point of C2 = 0 whose (C1, C0) the label 2 X + Y stands for
abbrev pub subset_point : Received → ℕ → Cplx
subset_point r l = psk8_of (subset r.mapping.tc8psk_c1_is_y l)

-- "A TC8PSK step has `soft(|(v × conj p).re|)` × scale at each (C1, C0)"
abbrev pub subset_metrics : Received → Segment → Cplx → List Float
subset_metrics r g v = upto (λ l. scaled r g (absolute (correlation v (subset_point r l)))) 4

-- ---- the steps of the frame
unfoldable pub metrics_by : Modulation → Received → Segment → ℕ → List Float
metrics_by Bpsk r g k = pair_metrics (soft_at r g k 0) (soft_at r g k 1)
metrics_by Qpsk r g k = pair_metrics (soft_at r g k 0) (soft_at r g k 1)
metrics_by Tc8psk r g k = subset_metrics r g (received_at r (g.symbol + k))

abbrev pub metrics_in : Received → Segment → ℕ → List Float
metrics_in r g k = metrics_by (modulation_of g.combination) r g k

unfoldable pub metrics_at : Table → Received → ℕ → List Float
metrics_at t r = at_step [] (metrics_in r) t

-- "Unknown start sets all 64 path values to 0"
abbrev pub start_values : Bool → Bool → List Float
start_values knownStart first = cond knownStart (start_at Isdb.states (start_state first)) (start_unknown Isdb.states)

-- W1, whose bits follow a frame as known bits
abbrev pub known_bits : ℕ → Step
known_bits k = known (word_bit w1 k)

-- "all in one `push_metrics` with traceback 128; then the 16 bits of W1, high bit first, as known bits; then a flush"
unfoldable pub decoded_bits : Table → Received → Bool → Bool → List ℕ
decoded_bits t r knownStart first =
    let d0 = fresh_from (start_values knownStart first) in
    let d1 = call frame_traceback (λ k. four (metrics_at t r k)) d0 (frame_steps t) in
    let d2 = steps frame_traceback known_bits d1 sync_bits in
    (flush d2).bits

-- ---- bytes
-- "C2 is 1 exactly when (v × conj p).re is below 0, p being the point of label 2C1+C0"
abbrev pub uncoded : Received → (ℕ → ℕ) → Segment → ℕ → ℕ
uncoded r at g k = bit (lt (correlation (received_at r (g.symbol + k)) (subset_point r (at (g.step + k)))) zero64)

-- bit i of a segment's bytes: "a TC8PSK step gives C2, then its decoded bit"
unfoldable pub bit_by : Modulation → Received → (ℕ → ℕ) → List ℕ → Segment → ℕ → ℕ
bit_by Bpsk r at us g i = get_or us (g.step + i) 0
bit_by Qpsk r at us g i = get_or us (g.step + i) 0
bit_by Tc8psk r at us g i = cond (eqb (i % 2) 0) (uncoded r at g (i / 2)) (get_or us (g.step + i / 2) 0)

abbrev pub bit_in : Received → (ℕ → ℕ) → List ℕ → Segment → ℕ → ℕ
bit_in r at us g i = bit_by (modulation_of g.combination) r at us g i

-- The bytes that the decoded bits us give: "For TC8PSK the bits are encoded again from the start state"; "Bytes fill high bit first"
unfoldable pub bytes_from : Table → Received → Bool → List ℕ → List ℕ
bytes_from t r first us =
    upto (λ j. byte_of (λ i. at_bit 0 (bit_in r (label_at (start_state first) us) us) t (8 * j + i))) (load_bytes t)

abbrev pub decoded_bytes : Table → Received → Bool → Bool → List ℕ
decoded_bytes t r knownStart first = bytes_from t r first (decoded_bits t r knownStart first)
