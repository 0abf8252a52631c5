-- Each step of a frame that lies within the margins favours the pair that the encoder sends there.
use Rattle.std.specs.Prelude.{◌≡◌, ◌⊎◌, Bool, ℕ, ◌+◌, ◌*◌, ◌/◌, ◌%◌, ◌<◌, get_or, length, Float}
use Rattle.std.proofs.Math.Path.{refl, subst}
use Rattle.std.proofs.Common.{sym, ap, mod-lt, lt→ltb, ltb→lt, lit<}
use Rattle.std.proofs.Math.Logic.{inl, inr}
use Rattle.std.proofs.Math.Bool.{true, false}
use mathlib.Core.List.{List, []}
use native.Mathlib.Omega.{arith}
use Rattle.std.proofs.Math.Dec.{T, ltb}
use Rattle.std.specs.Float.{nan}
use Rattle.std.specs.Float.Ieee.{lt}
use Rattle.trellis.specs.Code.{state_at, isdb}
use Rattle.trellis.specs.Lists.{bit, first_place}
use Rattle.trellis.specs.Step.{term}
use Rattle.path_lead.specs.Favour.{Favour}
use Rattle.path_lead.specs.Ties.{true_of}
use Rattle.isdbs_combination.specs.declared.Combination.{Combination}
use Rattle.isdbs_combination.specs.declared.Modulation.{Modulation}
use Rattle.isdbs_combination.specs.declared.Modulation.TheVariants.{Bpsk, Qpsk, Tc8psk}
use Rattle.isdbs_tables.specs.declared.Table.{Table}
use Rattle.isdbs_combination.specs.Combinations.{modulation_of}
use Rattle.isdbs_tables.specs.Tables.{TableAccepted}
use Rattle.isdbs_plan.specs.RunsOf.{frame_steps}
use Rattle.isdbs_points.specs.declared.Cplx.{Cplx}
use Rattle.isdbs_points.specs.declared.Mapping.{Mapping}
use Rattle.isdbs_points.specs.Points.{point, unused, zero64, root64, psk8_of, subset, conjugated, qpsk_of}
use Rattle.isdbs_points.specs.Layout.{Segment, segments, order_of, steps_per_period, load_bit, In}
use Rattle.isdbs_points.specs.Frame.{inputs, label_at, coded_bit, sent_bit, point_by, point_in, point_at, start_state}
use Rattle.isdbs_metrics.specs.Reading.{Received, scaled, part_of, carrier, soft_at, pair_metrics, correlation, metrics_by, metrics_in, metrics_at, received_at, received}
use Rattle.margins.specs.Margins.{keeps, is_bpsk, Within}
use Rattle.margins.proofs.Clean.{psk8_clean, conjugated_keeps}
use Rattle.margin_ends.specs.Ends.{eight}
use Rattle.margins.proofs.Speaks.{Speaks, Said, one_speaks, root_speaks}
use Rattle.margins.proofs.Pairs.{pair_favours}
use Rattle.margins.proofs.Tc8psk.{tc_favours, tc_uncoded}
use Rattle.isdbs_points.specs.SizeLaws.{table_whole, symbol_fits, at_symbol_lem, at_step_lem, find_step}
use Rattle.isdbs_points.specs.OrderLaws.{Sends, Pairs, Kind, one, two, three, kind, Kept, mother, number, sent_at}
use Rattle.isdbs_points.specs.BitLaws.{load_bit_small, coded_small, subset_small, of_pair}
use Rattle.exact_load.specs.Bits.{carries}
use Rattle.trellis.proofs.RunLaws.{label_under}

-- ---- a frame within the margins, as it is read at the scale 8
module _ (t : Table) (fit : TableAccepted t) (m : Mapping) (first : Bool) (load : List ℕ) (re im : List Float) (within : Within re im load t m first) where
  abbrev at : ℕ → ℕ
  at = label_at (start_state first) (inputs t load)

  abbrev r : Received
  r = received re im m eight

  -- the point of symbol j of a segment
  point_at_lem : (g : Segment) → In g (segments t) → (j : ℕ) → j < g.symbols
      → point_at t m load (start_state first) (g.symbol + j) ≡ point (point_in m load at g j).re (conjugated m.conjugate (point_in m load at g j).im)
  unfolding point_at
  point_at_lem g i j l = rw (at_symbol_lem t unused (point_in m load at) g i j l)

  -- its parts keep the margins
  re_keeps : (g : Segment) → In g (segments t) → (j : ℕ) → j < g.symbols → T (keeps (point_in m load at g j).re (received_at r (g.symbol + j)).re)
  re_keeps g i j l =
      rw (at_symbol_lem t true (λ g j. false) g i j l, point_at_lem g i j l)
      at (within.re_parts (g.symbol + j) (symbol_fits t fit g i j l))

  im_keeps : (g : Segment) → In g (segments t) → (j : ℕ) → j < g.symbols → is_bpsk (modulation_of g.combination) ≡ false
      → T (keeps (conjugated m.conjugate (point_in m load at g j).im) (get_or im (g.symbol + j) nan))
  im_keeps g i j l e =
      rw (at_symbol_lem t true (λ g j. is_bpsk (modulation_of g.combination)) g i j l, e, point_at_lem g i j l)
      at (within.im_parts (g.symbol + j) (symbol_fits t fit g i j l))

  -- ---- the bits that a BPSK or QPSK segment sends
  label_at_small : (k : ℕ) → at k < 4
  label_at_small k = label_under isdb (get_or (inputs t load) k 0) (state_at 32 (start_state first) (inputs t load) k)

  sent_small : (g : Segment) (i : ℕ) → sent_bit at g i < 2
  sent_small g i =
      let c = g.combination in
      let n = length (order_of c) in
      let a = get_or (order_of c) (i % n) 0 in
      let k = g.step + (i / n * steps_per_period c + a / 2) in
      coded_small a (at k) (label_at_small k)

  module _ (g : Segment) (i : In g (segments t)) where
    abbrev c : Combination
    c = g.combination

    -- the bit that is sent n-th, read at its part
    abbrev SpeaksAt : ℕ → Type 0
    SpeaksAt n = Speaks (sent_bit at g n) (scaled r g (carrier (modulation_of c) r g n))

    one_at : modulation_of c ≡ Bpsk → (n : ℕ) → n < g.symbols → SpeaksAt n
    unfolding point_by
    one_at e n l =
        subst (λ (x : Modulation). Speaks (sent_bit at g n) (scaled r g (carrier x r g n))) (sym e)
        (one_speaks (sent_bit at g n) (received_at r (g.symbol + n)).re (sent_small g n)
        (subst (λ (x : Modulation). T (keeps (point_by x m load at g n).re (received_at r (g.symbol + n)).re)) e (re_keeps g i n l)))

    two_at : modulation_of c ≡ Qpsk → (n : ℕ) → n < 2 * g.symbols → SpeaksAt n
    unfolding point_by
    two_at e n l =
        let j = n / 2 in
        let J : j < g.symbols = omega arith in
        let z = received_at r (g.symbol + j) in
        let reverse = m.qpsk_p1_on_q in
        let x : T (keeps (qpsk_of reverse (sent_bit at g (2 * j)) (sent_bit at g (2 * j + 1))).re (get_or re (g.symbol + j) nan)) =
        subst (λ (x : Modulation). T (keeps (point_by x m load at g j).re (get_or re (g.symbol + j) nan))) e (re_keeps g i j J) in
        let y : T (keeps (conjugated m.conjugate (qpsk_of reverse (sent_bit at g (2 * j)) (sent_bit at g (2 * j + 1))).im) (get_or im (g.symbol + j) nan)) =
        subst (λ (x : Modulation). T (keeps (conjugated m.conjugate (point_by x m load at g j).im) (get_or im (g.symbol + j) nan))) e (im_keeps g i j J (ap is_bpsk e)) in
        let k : T (keeps (term (sent_bit at g n) root64) (part_of reverse z (n % 2))) =
        subst (λ (b : ℕ). T (keeps (term b root64) (part_of reverse z (n % 2)))) (of_pair (sent_bit at g) n)
        (carries reverse m.conjugate (sent_bit at g (2 * j)) (sent_bit at g (2 * j + 1)) (get_or re (g.symbol + j) nan) (get_or im (g.symbol + j) nan)
        x y (n % 2) (mod-lt n (lit< tt))) in
        subst (λ (x : Modulation). Speaks (sent_bit at g n) (scaled r g (carrier x r g n))) (sym e)
        (root_speaks (sent_bit at g n) (part_of reverse z (n % 2)) (sent_small g n) k)

    -- ---- a step of a BPSK or QPSK segment
    abbrev n : ℕ
    n = length (order_of c)

    module _ (w : ℕ) (s : Sends c w) (speaks : (n : ℕ) → n < w * g.symbols → SpeaksAt n) (k : ℕ) (K : k < g.steps) where
      number_small : (b : ℕ) → first_place (mother g k b) (order_of c) < n → number g k b < w * g.symbols
      number_small b h =
          let o = table_whole t fit g i in
          rw o.symbols_are (s.room o.units k (first_place (mother g k b) (order_of c)) (rw o.steps_are at K) h)

      soft_speaks : (b : ℕ) → b < 2 → first_place (mother g k b) (order_of c) < n → Speaks (coded_bit b (at (g.step + k))) (soft_at r g k b)
      unfolding soft_at
      soft_speaks b B h =
          rw (true_of (ltb (first_place (mother g k b) (order_of c)) n) (lt→ltb (first_place (mother g k b) (order_of c)) n h), ← sent_at g k b at s.period B h)
          (speaks (number g k b) (number_small b h))

      soft_says : (b : ℕ) → b < 2 → Said (coded_bit b (at (g.step + k))) (soft_at r g k b)
      unfolding soft_at
      soft_says b B = go (ltb (first_place (mother g k b) (order_of c)) n) refl
        where
          go : (t : Bool) → ltb (first_place (mother g k b) (order_of c)) n ≡ t → Said (coded_bit b (at (g.step + k))) (soft_at r g k b)
          go true e = inr (soft_speaks b B (ltb→lt (first_place (mother g k b) (order_of c)) n (subst T (sym e) tt)))
          go false e = inl (rw e)

      pair_at_lem : Favour (pair_metrics (soft_at r g k 0) (soft_at r g k 1)) (at (g.step + k))
      pair_at_lem = pair_favours (soft_at r g k 0) (soft_at r g k 1) (at (g.step + k)) (label_at_small (g.step + k)) (go (s.kept (k % steps_per_period c) (mod-lt k s.period)))
        where
          go : Kept (order_of c) (k % steps_per_period c)
              → (Speaks (at (g.step + k) / 2) (soft_at r g k 0) × Said (at (g.step + k) % 2) (soft_at r g k 1))
              ⊎ (Said (at (g.step + k) / 2) (soft_at r g k 0) × Speaks (at (g.step + k) % 2) (soft_at r g k 1))
          go (inl h) = inl (soft_speaks 0 (lit< tt) h, soft_says 1 (lit< tt))
          go (inr h) = inr (soft_says 0 (lit< tt), soft_speaks 1 (lit< tt) h)

    -- ---- a step of a TC8PSK segment
    module _ (e : modulation_of c ≡ Tc8psk) (s : Pairs c) (k : ℕ) (K : k < g.steps) where
      abbrev z : Cplx
      z = received_at r (g.symbol + k)

      abbrev c2 : ℕ
      c2 = load_bit load (g.bit + 2 * k)

      abbrev p : Cplx
      p = psk8_of (4 * c2 + subset m.tc8psk_c1_is_y (at (g.step + k)))

      symbol_small : k < g.symbols
      symbol_small = let o = table_whole t fit g i in let q = s.symbols o.units in omega (arith, o.symbols_are, o.steps_are)

      tc_re : T (keeps p.re z.re)
      unfolding point_by
      tc_re = subst (λ (x : Modulation). T (keeps (point_by x m load at g k).re z.re)) e (re_keeps g i k symbol_small)

      tc_im : T (keeps p.im z.im)
      unfolding point_by
      tc_im =
          let l = subset m.tc8psk_c1_is_y (at (g.step + k)) in
          let small : 4 * c2 + l < 8 = omega (arith, load_bit_small load (g.bit + 2 * k), subset_small m.tc8psk_c1_is_y (at (g.step + k)) (label_at_small (g.step + k))) in
          conjugated_keeps m.conjugate (psk8_of (4 * c2 + l)).im (get_or im (g.symbol + k) nan) (psk8_clean (4 * c2 + l) small).1
          (subst (λ (x : Modulation). T (keeps (conjugated m.conjugate (point_by x m load at g k).im) (get_or im (g.symbol + k) nan))) e (im_keeps g i k symbol_small (ap is_bpsk e)))

      tc_at : Favour (metrics_by Tc8psk r g k) (at (g.step + k))
      unfolding metrics_by
      tc_at = tc_favours m.tc8psk_c1_is_y c2 (at (g.step + k)) z (load_bit_small load (g.bit + 2 * k)) (label_at_small (g.step + k)) tc_re tc_im

      pub tc_bit : bit (lt (correlation z (psk8_of (subset m.tc8psk_c1_is_y (at (g.step + k))))) zero64) ≡ c2
      tc_bit = tc_uncoded m.tc8psk_c1_is_y c2 (at (g.step + k)) z (load_bit_small load (g.bit + 2 * k)) (label_at_small (g.step + k)) tc_re tc_im

    -- ---- a step of any segment
    in_favours : (k : ℕ) → k < g.steps → Favour (metrics_in r g k) (at (g.step + k))
    unfolding metrics_by
    in_favours k K = go (kind c)
      where
        go : Kind c → Favour (metrics_in r g k) (at (g.step + k))
        go (one e s) =
            subst (λ (x : Modulation). Favour (metrics_by x r g k) (at (g.step + k))) (sym e)
            (pair_at_lem 1 s (λ n l. one_at e n (omega arith)) k K)
        go (two e s) =
            subst (λ (x : Modulation). Favour (metrics_by x r g k) (at (g.step + k))) (sym e)
            (pair_at_lem 2 s (two_at e) k K)
        go (three e s) =
            subst (λ (x : Modulation). Favour (metrics_by x r g k) (at (g.step + k))) (sym e)
            (tc_at e s k K)

  -- ---- the frame's steps
  pub step_favours : (k : ℕ) → k < frame_steps t → Favour (metrics_at t r k) (at k)
  unfolding metrics_at
  step_favours k l =
      let f = find_step t k l in
      rw (f.place_is, at_step_lem t [] (metrics_in r) f.segment f.member f.place f.small) (in_favours f.segment f.member f.place f.small)
