-- The metrics of a run's steps by the modulation: from the soft values of a block, and from its parts.
use mathlib.Core.Path.{◌≡◌, refl, sym, ◌∙◌, ap}
use mathlib.Core.Bool.{Bool, true, false, cond}
use mathlib.Core.List.{List}
use Prim.Native.Nat.{ℕ, zero, suc, ◌+◌, ◌-◌, ◌*◌, ◌/◌, ◌%◌, ◌<◌, ◌≤◌}
use native.Mathlib.Omega.{arith}
use native.Mathlib.Nat.{zero-add, add_assoc}
use borrow.Author.Tests.{ltb-true}
use lib.Dec.{ltb}
use lib.ListN.{get_or, length}
use lib.Ieee.{Float, nan, binary32, mul, of_bits}
use Rattle.trellis.specs.Lists.{upto, laid, first_place}
use Rattle.trellis.specs.Step.{Step, four}
use Rattle.isdbs_combination.specs.declared.Combination.{Combination}
use Rattle.isdbs_combination.specs.declared.Combination.TheVariants.{Bpsk1_2, Qpsk1_2, Qpsk2_3, Qpsk3_4, Qpsk5_6, Qpsk7_8, Tc8psk2_3}
use Rattle.isdbs_combination.specs.declared.Modulation.{Modulation}
use Rattle.isdbs_combination.specs.declared.Modulation.TheVariants.{Bpsk, Qpsk, Tc8psk}
use Rattle.isdbs_combination.specs.Combinations.{modulation_of}
use Rattle.isdbs_points.specs.declared.Mapping.{Mapping}
use Rattle.ieee_cast.specs.Soft.{soft_of}
use Rattle.isdbs_points.specs.Points.{point, conjugated}
use Rattle.isdbs_points.specs.Layout.{order_of, steps_per_period, sent_order}
use Rattle.trellis.specs.LaidLaws.{upto_cong, laid_at}
use Rattle.isdbs_points.specs.Pieces.{piece}
use Rattle.isdbs_metrics.specs.Reading.{part_of, carrier, pair_metrics, metrics_by, soft_at, absolute, subset_metrics, received}
use Rattle.isdbs_metrics.specs.declared.PeriodLayout.{PeriodLayout}
use Rattle.isdbs_metrics.specs.Steps.{qpsk_part, piece_metrics, Covers, LayoutOf}
use Rattle.trellis.specs.Run.{four_steps}
use Rattle.strain_marks.specs.Marks.{mark_of}
use Rattle.decode_block.specs.Blocks.{Periods, fours, run_steps, run_mark, four_in, BlockMade, pairs_at, step_soft, spread_soft, subset_parts}
use Rattle.decode_block.specs.PeriodLaws.{short, more_periods}
use Rattle.decode_block.proofs.Laws.{fours_steps, fours_0, fours_1, fours_2, fours_3}

never : {A : Type 0} → ◌≡◌ {A = ℕ} 0 1 → A
never h = absurd (omega arith)

-- a part as a soft value
abbrev pub soft_part : Float → Float → Float
soft_part x scale = mul binary32 (soft_of x) scale

pub bpsk_metrics : (c : Combination) (re im : List Float) (m : Mapping) (scale : Float) (k : ℕ) → modulation_of c ≡ Bpsk
    → piece_metrics c re im m scale k ≡ pair_metrics (soft_part (get_or re (2 * k) nan) scale) (soft_part (get_or re (2 * k + 1) nan) scale)
unfolding metrics_by soft_at first_place
bpsk_metrics Bpsk1_2 re im m scale k h =
    let e : k % 1 ≡ 0 = omega arith in
    let f : k / 1 * 2 + 0 ≡ 2 * k = omega arith in
    let g : k / 1 * 2 + 1 ≡ 2 * k + 1 = omega arith in
    rw (e, f, g, zero-add (2 * k), zero-add (2 * k + 1))
bpsk_metrics Qpsk1_2 re im m scale k h = never (cc)
bpsk_metrics Qpsk2_3 re im m scale k h = never (cc)
bpsk_metrics Qpsk3_4 re im m scale k h = never (cc)
bpsk_metrics Qpsk5_6 re im m scale k h = never (cc)
bpsk_metrics Qpsk7_8 re im m scale k h = never (cc)
bpsk_metrics Tc8psk2_3 re im m scale k h = never (cc)

-- the soft value at a place of a period
abbrev placed : List Float → List Float → Mapping → Float → ℕ → ℕ → ℕ → Float
placed re im m scale base count place = cond (ltb place count) (soft_part (qpsk_part re im m (base + place)) scale) (of_bits binary32 0)

carrier_qpsk : (c : Combination) (re im : List Float) (m : Mapping) (scale : Float) (i : ℕ) → modulation_of c ≡ Qpsk
    → carrier (modulation_of c) (received re im m scale) (piece c 0) i ≡ qpsk_part re im m i
carrier_qpsk c re im m scale i h =
    ap (λ (o : Modulation). carrier o (received re im m scale) (piece c 0) i) h
    ∙ ap (λ (x : ℕ). part_of m.qpsk_p1_on_q (point (get_or re x nan) (conjugated m.conjugate (get_or im x nan))) (i % 2)) (zero-add (i / 2))

soft_qpsk : (c : Combination) (re im : List Float) (m : Mapping) (scale : Float) (k b : ℕ) → modulation_of c ≡ Qpsk
    → soft_at (received re im m scale) (piece c 0) k b
    ≡ placed re im m scale (k / steps_per_period c * length (order_of c)) (length (order_of c)) (first_place (2 * (k % steps_per_period c) + b) (order_of c))
unfolding soft_at
soft_qpsk c re im m scale k b h =
    let n = length (order_of c) in
    let i = first_place (2 * (k % steps_per_period c) + b) (order_of c) in
    ap (λ (x : Float). cond (ltb i n) (soft_part x scale) (of_bits binary32 0)) (carrier_qpsk c re im m scale (k / steps_per_period c * n + i) h)

-- ---- BPSK
pub bpsk_room : (c : Combination) (k0 n len : ℕ) → modulation_of c ≡ Bpsk → Covers c (k0 + n) len → 2 * (k0 + n) ≤ len
bpsk_room c k0 n len e h = go (k0 + n) h
  where
    go : (k : ℕ) → Covers c k len → 2 * k ≤ len
    go zero g = omega arith
    go (suc k) g = let r = rw e at (g k (omega arith)) in omega arith

pub bpsk_made : (c : Combination) (re im : List Float) (m : Mapping) (scale : Float) (k0 n : ℕ) (pairs w block w2 : List Float) → modulation_of c ≡ Bpsk → 4 * n ≤ length block
    → pairs ≡ laid (upto (λ j. soft_part (get_or re (2 * k0 + j) nan) scale) (2 * n)) w
    → block ≡ laid (upto (fours (λ s. pair_metrics (get_or pairs (2 * s) nan) (get_or pairs (2 * s + 1) nan))) (4 * n)) w2
    → BlockMade (run_steps c re im m scale) k0 n block
bpsk_made c re im m scale k0 n pairs w block w2 e room ep eb =
    let f : ℕ → Float = λ j. soft_part (get_or re (2 * k0 + j) nan) scale in
    let at : (j : ℕ) → j < 2 * n → get_or pairs j nan ≡ f j = λ j l. ap (λ (z : List Float). get_or z j nan) ep ∙ laid_at nan f (2 * n) w j l in
    record {
      long = room;
      made = λ i h.
          let x : 2 * (k0 + i) ≡ 2 * k0 + 2 * i = omega arith in
          let y : 2 * k0 + 2 * i + 1 ≡ 2 * k0 + (2 * i + 1) = omega arith in
          fours_steps (λ s. pair_metrics (get_or pairs (2 * s) nan) (get_or pairs (2 * s + 1) nan)) n block w2 eb i h
          ∙ ap four (rw (at (2 * i) (omega arith), at (2 * i + 1) (omega arith)) (sym (rw (x, y) at (bpsk_metrics c re im m scale (k0 + i) e))));
    }

-- ---- QPSK
-- the metrics of a step from its two soft values
qpsk_piece : (c : Combination) (re im : List Float) (m : Mapping) (scale : Float) (k : ℕ) → modulation_of c ≡ Qpsk
    → piece_metrics c re im m scale k ≡ pair_metrics (soft_at (received re im m scale) (piece c 0) k 0) (soft_at (received re im m scale) (piece c 0) k 1)
unfolding metrics_by
qpsk_piece c re im m scale k h = ap (λ (o : Modulation). metrics_by o (received re im m scale) (piece c 0) k) h

pub qpsk_made : (c : Combination) (re im : List Float) (m : Mapping) (scale : Float) (k0 n : ℕ) (pairs w block w2 : List Float) → modulation_of c ≡ Qpsk → 4 * n ≤ length block
    → pairs ≡ laid (upto (step_soft c re im m scale k0) (2 * n)) w
    → block ≡ laid (upto (fours (λ s. pair_metrics (get_or pairs (2 * s) nan) (get_or pairs (2 * s + 1) nan))) (4 * n)) w2
    → BlockMade (run_steps c re im m scale) k0 n block
qpsk_made c re im m scale k0 n pairs w block w2 e room ep eb =
    let f = step_soft c re im m scale k0 in
    let at : (j : ℕ) → j < 2 * n → get_or pairs j nan ≡ f j = λ j l. ap (λ (z : List Float). get_or z j nan) ep ∙ laid_at nan f (2 * n) w j l in
    record {
      long = room;
      made = λ i h.
          let x : 2 * i / 2 ≡ i = omega arith in
          let y : 2 * i % 2 ≡ 0 = omega arith in
          let u : (2 * i + 1) / 2 ≡ i = omega arith in
          let v : (2 * i + 1) % 2 ≡ 1 = omega arith in
          fours_steps (λ s. pair_metrics (get_or pairs (2 * s) nan) (get_or pairs (2 * s + 1) nan)) n block w2 eb i h
          ∙ ap four (rw (at (2 * i) (omega arith), at (2 * i + 1) (omega arith), x, y, u, v) (sym (qpsk_piece c re im m scale (k0 + i) e)));
    }

-- the points of whole periods
whole_room : (c : Combination) (k len : ℕ) → modulation_of c ≡ Qpsk → Periods c k → Covers c k len → k / steps_per_period c * length (order_of c) ≤ 2 * len
unfolding sent_order
whole_room Bpsk1_2 k len e p g = never (cc)
whole_room Qpsk1_2 zero len e p g = omega arith
whole_room Qpsk1_2 (suc k) len e p g = let r = g k (omega arith) in omega arith
whole_room Qpsk2_3 zero len e p g = omega arith
whole_room Qpsk2_3 (suc k) len e p g = let r = g k (omega arith) in omega arith
whole_room Qpsk3_4 zero len e p g = omega arith
whole_room Qpsk3_4 (suc k) len e p g = let r = g k (omega arith) in omega arith
whole_room Qpsk5_6 zero len e p g = omega arith
whole_room Qpsk5_6 (suc k) len e p g = let r = g k (omega arith) in omega arith
whole_room Qpsk7_8 zero len e p g = omega arith
whole_room Qpsk7_8 (suc k) len e p g = let r = g k (omega arith) in omega arith
whole_room Tc8psk2_3 k len e p g = never (cc)

parts_room : (c : Combination) (k0 n len : ℕ) → modulation_of c ≡ Qpsk → Periods c k0 → Periods c n → (k0 + n) / steps_per_period c * length (order_of c) ≤ 2 * len
    → k0 / steps_per_period c * (length (order_of c) / 2) + n / steps_per_period c * (length (order_of c) / 2) ≤ len
unfolding sent_order
parts_room Bpsk1_2 k0 n len e p q g = never (cc)
parts_room Qpsk1_2 k0 n len e p q g = omega arith
parts_room Qpsk2_3 k0 n len e p q g = omega arith
parts_room Qpsk3_4 k0 n len e p q g = omega arith
parts_room Qpsk5_6 k0 n len e p q g = omega arith
parts_room Qpsk7_8 k0 n len e p q g = omega arith
parts_room Tc8psk2_3 k0 n len e p q g = never (cc)

pub qpsk_room : (c : Combination) (k0 n len : ℕ) → modulation_of c ≡ Qpsk → Periods c k0 → Periods c n → Covers c (k0 + n) len
    → k0 / steps_per_period c * (length (order_of c) / 2) + n / steps_per_period c * (length (order_of c) / 2) ≤ len
qpsk_room c k0 n len e p q g = parts_room c k0 n len e p q (whole_room c (k0 + n) len e (more_periods c k0 n p q) g)

-- the sizes of a block
pub block_sizes : (c : Combination) (n : ℕ) → Periods c n → n ≤ 64 * steps_per_period c
    → (n / steps_per_period c ≤ 64) × (n / steps_per_period c * length (order_of c) ≤ 512) × (2 * (n / steps_per_period c * (length (order_of c) / 2)) ≡ n / steps_per_period c * length (order_of c))
    × (n / steps_per_period c * (2 * steps_per_period c) ≡ 2 * n)
unfolding sent_order
block_sizes Bpsk1_2 n p h = (omega arith, omega arith, omega arith, omega arith)
block_sizes Qpsk1_2 n p h = (omega arith, omega arith, omega arith, omega arith)
block_sizes Qpsk2_3 n p h = (omega arith, omega arith, omega arith, omega arith)
block_sizes Qpsk3_4 n p h = (omega arith, omega arith, omega arith, omega arith)
block_sizes Qpsk5_6 n p h = (omega arith, omega arith, omega arith, omega arith)
block_sizes Qpsk7_8 n p h = (omega arith, omega arith, omega arith, omega arith)
block_sizes Tc8psk2_3 n p h = (omega arith, omega arith, omega arith, omega arith)

pub steps_few : (c : Combination) (n : ℕ) → n ≤ 64 * steps_per_period c → n ≤ 448
steps_few Bpsk1_2 n h = omega arith
steps_few Qpsk1_2 n h = omega arith
steps_few Qpsk2_3 n h = omega arith
steps_few Qpsk3_4 n h = omega arith
steps_few Qpsk5_6 n h = omega arith
steps_few Qpsk7_8 n h = omega arith
steps_few Tc8psk2_3 n h = omega arith

from_few : (c : Combination) (k : ℕ) → k / steps_per_period c * (length (order_of c) / 2) ≤ k
unfolding sent_order
from_few Bpsk1_2 k = omega arith
from_few Qpsk1_2 k = omega arith
from_few Qpsk2_3 k = omega arith
from_few Qpsk3_4 k = omega arith
from_few Qpsk5_6 k = omega arith
from_few Qpsk7_8 k = omega arith
from_few Tc8psk2_3 k = omega arith

-- what the code of a QPSK block computes
pub record Sizes (period count k0 n re im : ℕ) : Type 0 where
  pub some : 0 < period
  pub count_few : count ≤ 8
  pub period_few : period ≤ 7
  pub from_few : k0 / period * (count / 2) ≤ k0
  pub few : n / period ≤ 64
  pub sent_few : n / period * count ≤ 512
  pub twice : 2 * (n / period * (count / 2)) ≡ n / period * count
  pub re_fits : k0 / period * (count / 2) + n / period * (count / 2) ≤ re
  pub im_fits : k0 / period * (count / 2) + n / period * (count / 2) ≤ im

pub sizes : (layout : PeriodLayout) (k0 n re im : ℕ) → LayoutOf layout → modulation_of layout.combination ≡ Qpsk → Periods layout.combination k0 → Periods layout.combination n → n ≤ 64 * steps_per_period layout.combination
    → Covers layout.combination (k0 + n) re → Covers layout.combination (k0 + n) im → Sizes layout.period layout.count k0 n re im
sizes layout k0 n re im h e p q few gr gi =
    let c = layout.combination in
    let s = short c in
    let b = block_sizes c n q few in
    rw (h.period, h.count)
    (record {
      some = s.2;
      count_few = s.0;
      period_few = s.1;
      from_few = from_few c k0;
      few = b.0;
      sent_few = b.1;
      twice = b.2;
      re_fits = qpsk_room c k0 n re e p q gr;
      im_fits = qpsk_room c k0 n im e p q gi;
    })

-- step k of a block that starts with step k0
record Stands (c : Combination) (k0 n k : ℕ) : Type 0 where
  pub place : (k0 + k) % steps_per_period c ≡ k % steps_per_period c
  pub base : (k0 + k) / steps_per_period c * length (order_of c) ≡ 2 * (k0 / steps_per_period c * (length (order_of c) / 2)) + k / steps_per_period c * length (order_of c)
  pub within : (i : ℕ) → i < length (order_of c) → k / steps_per_period c * length (order_of c) + i < n / steps_per_period c * length (order_of c)

stands : (c : Combination) (k0 n k : ℕ) → Periods c k0 → Periods c n → k < n → Stands c k0 n k
unfolding sent_order
stands Bpsk1_2 k0 n k p q h = record { place = omega arith; base = omega arith; within = λ i l. omega arith }
stands Qpsk1_2 k0 n k p q h = record { place = omega arith; base = omega arith; within = λ i l. omega arith }
stands Qpsk2_3 k0 n k p q h = record { place = omega arith; base = omega arith; within = λ i l. omega arith }
stands Qpsk3_4 k0 n k p q h = record { place = omega arith; base = omega arith; within = λ i l. omega arith }
stands Qpsk5_6 k0 n k p q h = record { place = omega arith; base = omega arith; within = λ i l. omega arith }
stands Qpsk7_8 k0 n k p q h = record { place = omega arith; base = omega arith; within = λ i l. omega arith }
stands Tc8psk2_3 k0 n k p q h = record { place = omega arith; base = omega arith; within = λ i l. omega arith }

-- the soft values of whole periods, from the parts that carry them
module _ (c : Combination) (re im : List Float) (m : Mapping) (scale : Float) (k0 n : ℕ) (parts softs w1 w2 : List Float) (e : modulation_of c ≡ Qpsk) (p : Periods c k0) (q : Periods c n) where
  abbrev from : ℕ
  from = k0 / steps_per_period c * (length (order_of c) / 2)

  abbrev count : ℕ
  count = n / steps_per_period c * length (order_of c)

  module _ (eq : parts ≡ laid (upto (λ i. qpsk_part re im m (2 * from + i)) count) w1) (es : softs ≡ laid (upto (λ i. soft_part (get_or parts i nan) scale) count) w2) where
    soft_is : (i : ℕ) → i < count → get_or softs i nan ≡ soft_part (qpsk_part re im m (2 * from + i)) scale
    soft_is i l =
        ap (λ (z : List Float). get_or z i nan) es ∙ laid_at nan (λ i. soft_part (get_or parts i nan) scale) count w2 i l
        ∙ ap (λ (x : Float). soft_part x scale) (ap (λ (z : List Float). get_or z i nan) eq ∙ laid_at nan (λ i. qpsk_part re im m (2 * from + i)) count w1 i l)

    either : (t : Bool) (x y : Float) → (t ≡ true → x ≡ y) → cond t x (of_bits binary32 0) ≡ cond t y (of_bits binary32 0)
    either true x y h = h refl
    either false x y h = refl

    spread_is : (j : ℕ) → j < 2 * n → spread_soft c softs j ≡ step_soft c re im m scale k0 j
    spread_is j h =
        let k = j / 2 in
        let s = stands c k0 n k p q (omega arith) in
        let i = first_place (2 * (k % steps_per_period c) + j % 2) (order_of c) in
        let b = k / steps_per_period c * length (order_of c) in
        either (ltb i (length (order_of c))) (get_or softs (b + i) nan) (soft_part (qpsk_part re im m (2 * from + b + i)) scale)
        (λ t. soft_is (b + i) (s.within i (ltb-true i (length (order_of c)) t)) ∙ ap (λ (x : ℕ). soft_part (qpsk_part re im m x) scale) (sym (add_assoc (2 * from) b i)))
        ∙ sym (rw (s.place, s.base) at (soft_qpsk c re im m scale (k0 + k) (j % 2) e))

    pub qpsk_spread : (w : List Float) → laid (upto (spread_soft c softs) (2 * n)) w ≡ laid (upto (step_soft c re im m scale k0) (2 * n)) w
    qpsk_spread w = ap (λ (z : List Float). laid z w) (upto_cong (spread_soft c softs) (step_soft c re im m scale k0) (2 * n) spread_is)

-- ---- TC8PSK
tc8psk_metrics : (c : Combination) (re im : List Float) (m : Mapping) (scale : Float) (k : ℕ) → modulation_of c ≡ Tc8psk
    → piece_metrics c re im m scale k ≡ subset_metrics (received re im m scale) (piece c 0) (point (get_or re k nan) (conjugated m.conjugate (get_or im k nan)))
unfolding metrics_by
tc8psk_metrics c re im m scale k h = rw (h, zero-add k)

pub tc8psk_room : (c : Combination) (k0 n len : ℕ) → modulation_of c ≡ Tc8psk → Covers c (k0 + n) len → k0 + n ≤ len
tc8psk_room c k0 n len e h = go (k0 + n) h
  where
    go : (k : ℕ) → Covers c k len → k ≤ len
    go zero g = omega arith
    go (suc k) g = let r = rw e at (g k (omega arith)) in omega arith

pub tc8psk_few : (c : Combination) (n : ℕ) → modulation_of c ≡ Tc8psk → n ≤ 64 * steps_per_period c → n ≤ 64
tc8psk_few Bpsk1_2 n e h = never (cc)
tc8psk_few Qpsk1_2 n e h = never (cc)
tc8psk_few Qpsk2_3 n e h = never (cc)
tc8psk_few Qpsk3_4 n e h = never (cc)
tc8psk_few Qpsk5_6 n e h = never (cc)
tc8psk_few Qpsk7_8 n e h = never (cc)
tc8psk_few Tc8psk2_3 n e h = omega arith

pub tc8psk_made : (c : Combination) (re im : List Float) (m : Mapping) (scale : Float) (k0 n : ℕ) (parts w block w2 : List Float) → modulation_of c ≡ Tc8psk → 4 * n ≤ length block
    → parts ≡ laid (upto (fours (λ s. subset_parts re im m (k0 + s))) (4 * n)) w
    → block ≡ laid (upto (λ i. soft_part (absolute (get_or parts i nan)) scale) (4 * n)) w2
    → BlockMade (run_steps c re im m scale) k0 n block
unfolding upto
tc8psk_made c re im m scale k0 n parts w block w2 e room ep eb =
    let ms : ℕ → List Float = λ s. subset_parts re im m (k0 + s) in
    let f : ℕ → Float = λ i. soft_part (absolute (get_or parts i nan)) scale in
    let at : (j : ℕ) → j < 4 * n → get_or block j nan ≡ soft_part (absolute (fours ms j)) scale = λ j l.
    ap (λ (z : List Float). get_or z j nan) eb ∙ laid_at nan f (4 * n) w2 j l
    ∙ ap (λ (x : Float). soft_part (absolute x) scale) (ap (λ (z : List Float). get_or z j nan) ep ∙ laid_at nan (fours ms) (4 * n) w j l) in
    record {
      long = room;
      made = λ i h.
          ap four
          (rw (
            at (4 * i) (omega arith),
            at (4 * i + 1) (omega arith),
            at (4 * i + 2) (omega arith),
            at (4 * i + 3) (omega arith),
            fours_0 ms i,
            fours_1 ms i,
            fours_2 ms i,
            fours_3 ms i,
          )
          (sym (tc8psk_metrics c re im m scale (k0 + i) e)));
    }

-- ---- the marks of a block
pub marks_made : (c : Combination) (re im : List Float) (m : Mapping) (scale : Float) (k0 n : ℕ) (block : List Float) (w : List ℕ) → BlockMade (run_steps c re im m scale) k0 n block
    → laid (upto (λ i. mark_of (four_in (four_steps block i))) n) w ≡ laid (upto (λ i. run_mark c re im m scale (k0 + i)) n) w
marks_made c re im m scale k0 n block w b =
    ap (λ (z : List ℕ). laid z w)
    (upto_cong (λ i. mark_of (four_in (four_steps block i))) (λ i. run_mark c re im m scale (k0 + i)) n (λ i l. ap (λ (x : Step). mark_of (four_in x)) (b.made i l)))

-- made with the metrics of pairs
pub pair_marks : (pairs block : List Float) (n : ℕ) (w2 : List Float) (w : List ℕ) → block ≡ laid (upto (fours (pairs_at pairs)) (4 * n)) w2
    → laid (upto (λ s. mark_of (pairs_at pairs s)) n) w ≡ laid (upto (λ i. mark_of (four_in (four_steps block i))) n) w
pair_marks pairs block n w2 w e =
    ap (λ (z : List ℕ). laid z w)
    (upto_cong (λ s. mark_of (pairs_at pairs s)) (λ i. mark_of (four_in (four_steps block i))) n (λ i l. ap (λ (x : Step). mark_of (four_in x)) (sym (fours_steps (pairs_at pairs) n block w2 e i l))))

-- ---- not QPSK
pub not_bpsk : modulation_of Bpsk1_2 ≡ Qpsk → ⊥
not_bpsk h = never (cc)

pub not_tc8psk : modulation_of Tc8psk2_3 ≡ Qpsk → ⊥
not_tc8psk h = never (cc)
