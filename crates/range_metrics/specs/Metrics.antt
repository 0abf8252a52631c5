-- The soft values and the metrics of a frame whose parts are within 2 ^ p and whose scales are within 2 ^ s: a soft value is within 2 ^ (p + s), a metric within
-- twice that.
use Rattle.std.specs.Prelude.{◌≡◌, Bool, true, false, cond, T, eqb, ltb, get_or, length, Float}
use Rattle.std.proofs.Math.Path.{refl}
use Rattle.std.proofs.Common.{sym, ◌∙◌, inl, ltb→lt, lit≤}
use mathlib.Core.List.{[], ◌∷◌}
use Prim.Native.Nat.{ℕ, zero, suc, ◌+◌, ◌*◌, ◌/◌, ◌%◌, ◌≤◌, ◌<◌}
use native.Mathlib.Omega.{arith}
use Rattle.std.specs.Float.{nan, binary64}
use Rattle.std.specs.Float.Ieee.{binary32, fits, neg, add, sub, of_bits}
use Rattle.ieee.specs.Value.{mag, hi, lo}
use Rattle.ieee.specs.Rounding.{pow2}
use Rattle.trellis.specs.Lists.{bit, first_place}
use Rattle.trellis.specs.ListLaws.{get_d_upto}
use Rattle.path_lead.specs.Ties.{pick}
use Rattle.isdbs_combination.specs.declared.Combination.{Combination}
use Rattle.isdbs_combination.specs.declared.Combination.TheVariants.{Bpsk1_2, Qpsk1_2, Qpsk2_3, Qpsk3_4, Qpsk5_6, Qpsk7_8, Tc8psk2_3}
use Rattle.isdbs_combination.specs.declared.Modulation.{Modulation}
use Rattle.isdbs_combination.specs.declared.Modulation.TheVariants.{Bpsk, Qpsk, Tc8psk}
use Rattle.isdbs_tables.specs.declared.Table.{Table}
use Rattle.isdbs_combination.specs.Combinations.{modulation_of, unit_of, slot_steps, slot_symbols}
use Rattle.isdbs_tables.specs.Tables.{TableAccepted}
use Rattle.isdbs_plan.specs.RunsOf.{frame_steps}
use Rattle.isdbs_points.specs.declared.Cplx.{Cplx}
use Rattle.isdbs_points.specs.Points.{zero64, one64, root64, psk8_of, subset}
use Rattle.isdbs_points.specs.Layout.{Segment, segments, sent_order, order_of, steps_per_period, In}
use Rattle.isdbs_points.specs.SizeLaws.{table_whole, symbol_fits, at_step_lem, find_step}
use Rattle.isdbs_metrics.specs.Reading.{Received, scaled, part_of, carrier, soft_at, pair_metrics, correlation, absolute, subset_point, subset_metrics, metrics_by, metrics_in, metrics_at, received_at}
use Rattle.range_metrics.specs.Rising.{Up, Rises, pair_rises, product_up, absolute_up, soft_up}
use Rattle.range_metrics.specs.Size.{Size, size_more, size_neg, size_add, size_sub, size_mul, size_absolute, size_soft, size_zero}
use Rattle.isdbs_frame.specs.Frame.{main_symbols}

-- the parts of all 38,976 points are within 2 ^ p, and each scale is within 2 ^ s and not below 0
pub record Sized (p s : ℕ) (r : Received) : Type 0 where
  pub re_in : (k : ℕ) → k < main_symbols → Size binary64 p (get_or r.re k nan)
  pub im_in : (k : ℕ) → k < main_symbols → Size binary64 p (get_or r.im k nan)
  pub scale_in : (c : Combination) → Size binary32 s (r.scale c)
  pub scale_up : (c : Combination) → Up binary32 (r.scale c)

-- ---- the parts of the 8PSK points are within 1
zero_in : Size binary64 0 zero64
unfolding of_bits fits hi lo mag pow2
zero_in = record { num = record { fin_x = tt; fits_x = tt }; above = lit≤ tt; below = lit≤ tt }

one_in : Size binary64 0 one64
unfolding of_bits fits hi lo mag pow2
one_in = record { num = record { fin_x = tt; fits_x = tt }; above = lit≤ tt; below = lit≤ tt }

root_in : Size binary64 0 root64
unfolding of_bits fits hi lo mag pow2
root_in = record { num = record { fin_x = tt; fits_x = tt }; above = lit≤ tt; below = lit≤ tt }

abbrev PointIn : Cplx → Type 0
PointIn z = Size binary64 0 z.re × Size binary64 0 z.im

psk8_in : (l : ℕ) → PointIn (psk8_of l)
psk8_in zero = (one_in, zero_in)
psk8_in (suc zero) = (root_in, root_in)
psk8_in (suc (suc zero)) = (size_neg root_in, root_in)
psk8_in (suc (suc (suc zero))) = (zero_in, one_in)
psk8_in (suc (suc (suc (suc zero)))) = (size_neg one_in, zero_in)
psk8_in (suc (suc (suc (suc (suc zero))))) = (size_neg root_in, size_neg root_in)
psk8_in (suc (suc (suc (suc (suc (suc zero)))))) = (root_in, size_neg root_in)
psk8_in (suc (suc (suc (suc (suc (suc (suc zero))))))) = (zero_in, size_neg one_in)
psk8_in (suc (suc (suc (suc (suc (suc (suc (suc l)))))))) = (zero_in, zero_in)

-- ---- the coded bits of a segment's steps lie in its symbols, `width` of them in each
abbrev width : Modulation → ℕ
width Bpsk = 1
width Qpsk = 2
width Tc8psk = 2

fits_in : (c : Combination) (u k i : ℕ) → k < slot_steps c * (u * (unit_of c).valid) → i < length (order_of c)
    → k / steps_per_period c * length (order_of c) + i < width (modulation_of c) * (u * ((unit_of c).slots * slot_symbols))
unfolding sent_order
fits_in Bpsk1_2 u k i h l = omega arith
fits_in Qpsk1_2 u k i h l = omega arith
fits_in Qpsk2_3 u k i h l = omega arith
fits_in Qpsk3_4 u k i h l = omega arith
fits_in Qpsk5_6 u k i h l = omega arith
fits_in Qpsk7_8 u k i h l = omega arith
fits_in Tc8psk2_3 u k i h l = omega arith

-- ---- not TC8PSK
bpsk_not : Bpsk ≡ Tc8psk → ⊥
bpsk_not e = let z : ◌≡◌ {A = ℕ} 0 1 = cc in omega arith

qpsk_not : Qpsk ≡ Tc8psk → ⊥
qpsk_not e = let z : ◌≡◌ {A = ℕ} 0 1 = cc in omega arith

not_three : {a b : Modulation} → a ≡ b → (b ≡ Tc8psk → ⊥) → a ≡ Tc8psk → ⊥
not_three e n f = n (sym e ∙ f)

-- a TC8PSK step has a symbol of its own
alone_in : (c : Combination) (u k : ℕ) → modulation_of c ≡ Tc8psk → k < slot_steps c * (u * (unit_of c).valid) → k < u * ((unit_of c).slots * slot_symbols)
alone_in Bpsk1_2 u k e h = absurd (bpsk_not e)
alone_in Qpsk1_2 u k e h = absurd (qpsk_not e)
alone_in Qpsk2_3 u k e h = absurd (qpsk_not e)
alone_in Qpsk3_4 u k e h = absurd (qpsk_not e)
alone_in Qpsk5_6 u k e h = absurd (qpsk_not e)
alone_in Qpsk7_8 u k e h = absurd (qpsk_not e)
alone_in Tc8psk2_3 u k e h = omega arith

-- ---- one list of four
four_of_lem : (P : Float → Type 0) (a b c d : Float) → P a → P b → P c → P d → (l : ℕ) → l < 4 → P (get_or (a ∷ b ∷ c ∷ d ∷ []) l nan)
four_of_lem P a b c d p q r s zero h = p
four_of_lem P a b c d p q r s (suc zero) h = q
four_of_lem P a b c d p q r s (suc (suc zero)) h = r
four_of_lem P a b c d p q r s (suc (suc (suc zero))) h = s
four_of_lem P a b c d p q r s (suc (suc (suc (suc l)))) h = absurd (omega arith)

module _ (p s : ℕ) (room : p + s + 2 ≤ 127) (t : Table) (fit : TableAccepted t) (r : Received) (z : Sized p s r) where
  -- ---- a symbol
  re_at : (k : ℕ) → k < main_symbols → Size binary64 p (received_at r k).re
  re_at k h = z.re_in k h

  im_at : (k : ℕ) → k < main_symbols → Size binary64 p (received_at r k).im
  im_at k h = pick (Size binary64 p) r.mapping.conjugate (neg (get_or r.im k nan)) (get_or r.im k nan) (size_neg (z.im_in k h)) (z.im_in k h)

  part_at : (b : Bool) (k h : ℕ) → k < main_symbols → Size binary64 p (part_of b (received_at r k) h)
  part_at b k h l = pick (Size binary64 p) (eqb h (bit b)) (received_at r k).re (received_at r k).im (re_at k l) (im_at k l)

  -- "`soft(part)` × scale"
  scaled_in : (g : Segment) (x : Float) (q : ℕ) → q + s ≤ 127 → Size binary64 q x → Size binary32 (q + s) (scaled r g x)
  scaled_in g x q h i = size_mul {s = q} {t = s} h (size_soft (omega arith) i) (z.scale_in g.combination)

  module _ (g : Segment) (m : In g (segments t)) where
    -- ---- a soft value of BPSK or QPSK
    carrier_in : (x : Modulation) → (x ≡ Tc8psk → ⊥) → (i : ℕ) → i < width x * g.symbols → Size binary64 p (carrier x r g i)
    carrier_in Bpsk n i h = re_at (g.symbol + i) (symbol_fits t fit g m i (omega arith))
    carrier_in Qpsk n i h = part_at r.mapping.qpsk_p1_on_q (g.symbol + i / 2) (i % 2) (symbol_fits t fit g m (i / 2) (omega arith))
    carrier_in Tc8psk n i h = absurd (n refl)

    number_in : (k i : ℕ) → k < g.steps → i < length (order_of g.combination)
        → k / steps_per_period g.combination * length (order_of g.combination) + i < width (modulation_of g.combination) * g.symbols
    number_in k i K h =
        let o = table_whole t fit g m in
        rw o.symbols_are (fits_in g.combination o.units k i (rw o.steps_are at K) h)

    pub soft_in : (modulation_of g.combination ≡ Tc8psk → ⊥) → (k b : ℕ) → k < g.steps → Size binary32 (p + s) (soft_at r g k b)
    unfolding soft_at
    soft_in n k b K = go (ltb i (length (order_of c))) (ltb→lt i (length (order_of c)))
      where
        c : Combination
        c = g.combination

        i : ℕ
        i = first_place (2 * (k % steps_per_period c) + b) (order_of c)

        x : Float
        x = carrier (modulation_of c) r g (k / steps_per_period c * length (order_of c) + i)

        go : (w : Bool) → (T w → i < length (order_of c)) → Size binary32 (p + s) (cond w (scaled r g x) (of_bits binary32 0))
        go true h = scaled_in g x p (omega arith) (carrier_in (modulation_of c) n (k / steps_per_period c * length (order_of c) + i) (number_in k i K (h tt)))
        go false h = size_zero (p + s)

    -- ---- the metrics of a pair
    pair_in : (x y : Float) → Size binary32 (p + s) x → Size binary32 (p + s) y → (l : ℕ) → l < 4 → Size binary32 (suc (p + s)) (get_or (pair_metrics x y) l nan)
    pair_in x y a b =
        let h : suc (p + s) ≤ 127 = omega arith in
        four_of_lem (Size binary32 (suc (p + s))) (add binary32 x y) (sub binary32 x y) (add binary32 (neg x) y) (sub binary32 (neg x) y) (size_add h a b) (size_sub h a b) (size_add h (size_neg a) b) (size_sub h (size_neg a) b)

    -- ---- the metrics of TC8PSK
    correlation_in : (v q : Cplx) → Size binary64 p v.re → Size binary64 p v.im → PointIn q → Size binary64 (suc p) (correlation v q)
    correlation_in v q a b w =
        let h : p + 0 ≤ p = omega arith in
        size_add (omega arith) (size_more (p + 0) p h (size_mul {s = p} {t = 0} (omega arith) a w.0)) (size_more (p + 0) p h (size_mul {s = p} {t = 0} (omega arith) b w.1))

    module _ (k : ℕ) (e : modulation_of g.combination ≡ Tc8psk) (K : k < g.steps) (l : ℕ) (h : l < 4) where
      abbrev v : Cplx
      v = received_at r (g.symbol + k)

      abbrev x : Float
      x = correlation v (subset_point r l)

      magnitude_in : Size binary64 (suc p) (absolute x)
      magnitude_in =
          let o = table_whole t fit g m in
          let j : k < g.symbols = rw o.symbols_are (alone_in g.combination o.units k e (rw o.steps_are at K)) in
          let at = symbol_fits t fit g m k j in
          size_absolute x (correlation_in v (subset_point r l) (re_at (g.symbol + k) at) (im_at (g.symbol + k) at) (psk8_in (subset r.mapping.tc8psk_c1_is_y l)))

      subset_in : Size binary32 (suc (p + s)) (get_or (subset_metrics r g v) l nan)
      subset_in =
          rw (get_d_upto (λ l. scaled r g (absolute (correlation v (subset_point r l)))) nan 4 l h)
          (size_more (suc p + s) (suc (p + s)) (omega arith) (scaled_in g (absolute x) (suc p) (omega arith) magnitude_in))

      subset_up : Up binary32 (get_or (subset_metrics r g v) l nan)
      subset_up =
          rw (get_d_upto (λ l. scaled r g (absolute (correlation v (subset_point r l)))) nan 4 l h)
          (product_up {s = suc p} {t = s} (omega arith) (size_soft (omega arith) magnitude_in) (z.scale_in g.combination) (soft_up (omega arith) magnitude_in (absolute_up binary64 x)) (z.scale_up g.combination))

    -- ---- a step of any segment
    metrics_in_lem : (k : ℕ) → k < g.steps → (l : ℕ) → l < 4 → Size binary32 (suc (p + s)) (get_or (metrics_in r g k) l nan)
    unfolding metrics_by
    metrics_in_lem k K l h = go (modulation_of g.combination) refl
      where
        go : (x : Modulation) → modulation_of g.combination ≡ x → Size binary32 (suc (p + s)) (get_or (metrics_by x r g k) l nan)
        go Bpsk e = pair_in (soft_at r g k 0) (soft_at r g k 1) (soft_in (not_three e bpsk_not) k 0 K) (soft_in (not_three e bpsk_not) k 1 K) l h
        go Qpsk e = pair_in (soft_at r g k 0) (soft_at r g k 1) (soft_in (not_three e qpsk_not) k 0 K) (soft_in (not_three e qpsk_not) k 1 K) l h
        go Tc8psk e = subset_in k e K l h

    metrics_rise : (k : ℕ) → k < g.steps → (l : ℕ) → l < 4 → Rises (metrics_in r g k) l
    unfolding metrics_by
    metrics_rise k K l h = go (modulation_of g.combination) refl
      where
        few : suc (p + s) ≤ 127
        few = omega arith

        go : (x : Modulation) → modulation_of g.combination ≡ x → Rises (metrics_by x r g k) l
        go Bpsk e = pair_rises few (soft_in (not_three e bpsk_not) k 0 K) (soft_in (not_three e bpsk_not) k 1 K) l h
        go Qpsk e = pair_rises few (soft_in (not_three e qpsk_not) k 0 K) (soft_in (not_three e qpsk_not) k 1 K) l h
        go Tc8psk e = inl (subset_up k e K l h)

    -- those of TC8PSK are not below 0
    pub metrics_up : (k : ℕ) → k < g.steps → modulation_of g.combination ≡ Tc8psk → (l : ℕ) → l < 4 → Up binary32 (get_or (metrics_in r g k) l nan)
    unfolding metrics_by
    metrics_up k K e l h = rw e (subset_up k e K l h)

  -- ---- a step of the frame
  pub metric_in : (k : ℕ) → k < frame_steps t → (l : ℕ) → l < 4 → Size binary32 (suc (p + s)) (get_or (metrics_at t r k) l nan)
  unfolding metrics_at
  metric_in k K l h =
      let f = find_step t k K in
      rw (f.place_is, at_step_lem t [] (metrics_in r) f.segment f.member f.place f.small) (metrics_in_lem f.segment f.member f.place f.small l h)

  pub metric_rises : (k : ℕ) → k < frame_steps t → (l : ℕ) → l < 4 → Rises (metrics_at t r k) l
  unfolding metrics_at
  metric_rises k K l h =
      let f = find_step t k K in
      rw (f.place_is, at_step_lem t [] (metrics_in r) f.segment f.member f.place f.small) (metrics_rise f.segment f.member f.place f.small l h)
