-- Points past the 38,976th are not read: what decoding gives depends on the first 38,976 real and imaginary parts alone.
use Rattle.std.specs.Prelude.{◌≡◌, Bool, ℕ, zero, suc, ◌+◌, ◌*◌, ◌/◌, ◌%◌, ◌<◌, ◌≤◌, T, eqb, ltb, get_or, Float}
use Rattle.std.proofs.Math.Path.{refl}
use Rattle.std.proofs.Common.{ap, arith, ltb→lt, lit<}
use Rattle.std.proofs.Math.Bool.{true, false, cond}
use mathlib.Core.List.{List, []}
use Rattle.std.proofs.Math.ListN.{length}
use Rattle.std.specs.Float.{nan}
use Rattle.std.specs.Float.Ieee.{binary32, of_bits, lt}
use Rattle.trellis.specs.Isdb
use Rattle.trellis.specs.Lists.{bit, first_place}
use Rattle.trellis.specs.Step.{Step, Tie, four}
use Rattle.trellis.specs.Run.{Decoder, after}
use Rattle.isdbs_combination.specs.declared.Combination.{Combination}
use Rattle.isdbs_combination.specs.declared.Modulation.TheVariants.{Bpsk, Qpsk}
use Rattle.isdbs_tables.specs.declared.Table.{Table}
use Rattle.isdbs_combination.specs.Combinations.{modulation_of}
use Rattle.isdbs_tables.specs.Tables.{TableAccepted}
use Rattle.isdbs_plan.specs.RunsOf.{frame_steps, load_bytes}
use Rattle.isdbs_points.specs.declared.Cplx.{Cplx}
use Rattle.isdbs_points.specs.declared.Mapping.{Mapping}
use Rattle.isdbs_points.specs.Points.{zero64}
use Rattle.isdbs_points.specs.Layout.{Segment, segments, order_of, at_bit, byte_of, In}
use Rattle.isdbs_points.specs.Frame.{label_at, start_state}
use Rattle.isdbs_metrics.specs.Reading.{Received, scaled, part_of, carrier, soft_at, correlation, subset_point, subset_metrics, metrics_by, metrics_in, metrics_at, start_values, decoded_bits, bit_by, bit_in, bytes_from, decoded_bytes, received_at}
use Rattle.trellis.specs.LaidLaws.{upto_cong}
use Rattle.isdbs_points.specs.SizeLaws.{table_whole, symbol_fits, at_step_lem, at_bit_lem, find_step, find_bit}
use Rattle.isdbs_points.specs.OrderLaws.{Sends, Pairs, Kind, one, two, three, kind, mother, number}
use Rattle.isdbs_frame.specs.Frame.{main_symbols}
use Rattle.trellis.specs.Isdb.{frame_traceback}

-- n steps of a call see its first n steps
after_alike : (half : ℕ) (out : ℕ → ℕ → ℕ) (t : Tie) (tb : ℕ) (xs ys : ℕ → Step) (d : Decoder) (n : ℕ) → ((k : ℕ) → k < n → xs k ≡ ys k)
    → after half out t tb xs d n ≡ after half out t tb ys d n
unfolding after
after_alike half out t tb xs ys d zero h = refl
after_alike half out t tb xs ys d (suc n) h =
    rw (h n (omega arith), after_alike half out t tb xs ys d n (λ k l. h k (omega arith)))

-- two frames as they are lent, alike in the first 38,976 points
module _
    (t : Table) (fit : TableAccepted t) (m : Mapping) (scale : Combination → Float) (re im re' im' : List Float)
    (re-alike : (k : ℕ) → k < main_symbols → get_or re k nan ≡ get_or re' k nan) (im-alike : (k : ℕ) → k < main_symbols → get_or im k nan ≡ get_or im' k nan) where
  abbrev r : Received
  r = record { re = re; im = im; mapping = m; scale = scale }

  abbrev r' : Received
  r' = record { re = re'; im = im'; mapping = m; scale = scale }

  symbol_alike : (k : ℕ) → k < main_symbols → received_at r k ≡ received_at r' k
  symbol_alike k l = rw (re-alike k l, im-alike k l)

  module _ (g : Segment) (i : In g (segments t)) where
    abbrev c : Combination
    c = g.combination

    -- ---- a step of BPSK or QPSK
    abbrev CarrierAlike : ℕ → Type 0
    CarrierAlike n = carrier (modulation_of c) r g n ≡ carrier (modulation_of c) r' g n

    one_alike : modulation_of c ≡ Bpsk → (n : ℕ) → n < g.symbols → CarrierAlike n
    one_alike e n l = rw e (ap (λ (z : Cplx). z.re) (symbol_alike (g.symbol + n) (symbol_fits t fit g i n l)))

    two_alike : modulation_of c ≡ Qpsk → (n : ℕ) → n < 2 * g.symbols → CarrierAlike n
    two_alike e n l =
        rw e (ap (λ (z : Cplx). part_of m.qpsk_p1_on_q z (n % 2)) (symbol_alike (g.symbol + n / 2) (symbol_fits t fit g i (n / 2) (omega arith))))

    module _ (w : ℕ) (s : Sends c w) (alike : (n : ℕ) → n < w * g.symbols → CarrierAlike n) (k : ℕ) (K : k < g.steps) where
      soft_alike : (b : ℕ) → soft_at r g k b ≡ soft_at r' g k b
      unfolding soft_at
      soft_alike b = go (ltb (first_place (mother g k b) (order_of c)) (length (order_of c))) (ltb→lt (first_place (mother g k b) (order_of c)) (length (order_of c)))
        where
          go : (u : Bool) → (T u → first_place (mother g k b) (order_of c) < length (order_of c))
              → cond u (scaled r g (carrier (modulation_of c) r g (number g k b))) (of_bits binary32 0)
              ≡ cond u (scaled r' g (carrier (modulation_of c) r' g (number g k b))) (of_bits binary32 0)
          go true h =
              let o = table_whole t fit g i in
              let small : number g k b < w * g.symbols =
              rw o.symbols_are (s.room o.units k (first_place (mother g k b) (order_of c)) (rw o.steps_are at K) (h tt)) in
              rw (alike (number g k b) small)
          go false h = refl

    -- ---- a step of TC8PSK
    symbol_small : Pairs c → (k : ℕ) → k < g.steps → k < g.symbols
    symbol_small s k K = let o = table_whole t fit g i in let q = s.symbols o.units in omega (arith, o.symbols_are, o.steps_are)

    -- ---- a step of any segment
    in_alike : (k : ℕ) → k < g.steps → metrics_in r g k ≡ metrics_in r' g k
    unfolding metrics_by
    in_alike k K = go (kind c)
      where
        go : Kind c → metrics_by (modulation_of c) r g k ≡ metrics_by (modulation_of c) r' g k
        go (one e s) = rw (e, soft_alike 1 s (λ n l. one_alike e n (omega arith)) k K 0, soft_alike 1 s (λ n l. one_alike e n (omega arith)) k K 1)
        go (two e s) = rw (e, soft_alike 2 s (two_alike e) k K 0, soft_alike 2 s (two_alike e) k K 1)
        go (three e s) = rw e (ap (λ (z : Cplx). subset_metrics r g z) (symbol_alike (g.symbol + k) (symbol_fits t fit g i k (symbol_small s k K))))

    -- ---- a bit of the load
    bit_in_alike : (at : ℕ → ℕ) (us : List ℕ) (k : ℕ) → k < g.bits → bit_in r at us g k ≡ bit_in r' at us g k
    unfolding bit_by
    bit_in_alike at us k K = go (kind c)
      where
        go : Kind c → bit_by (modulation_of c) r at us g k ≡ bit_by (modulation_of c) r' at us g k
        go (one e s) = rw e
        go (two e s) = rw e
        go (three e s) =
            let o = table_whole t fit g i in
            let small : k / 2 < g.steps = (let b = s.bits o.units in omega (arith, o.steps_are, o.bits_are)) in
            rw e
            (ap (λ (z : Cplx). cond (eqb (k % 2) 0) (bit (lt (correlation z (subset_point r (at (g.step + k / 2)))) zero64)) (get_or us (g.step + k / 2) 0))
            (symbol_alike (g.symbol + k / 2) (symbol_fits t fit g i (k / 2) (symbol_small s (k / 2) small))))

  step_alike : (k : ℕ) → k < frame_steps t → four (metrics_at t r k) ≡ four (metrics_at t r' k)
  unfolding metrics_at
  step_alike k l =
      let f = find_step t k l in
      rw (
        f.place_is,
        at_step_lem t [] (metrics_in r) f.segment f.member f.place f.small,
        at_step_lem t [] (metrics_in r') f.segment f.member f.place f.small,
        in_alike f.segment f.member f.place f.small,
      )

  bit_alike : (at : ℕ → ℕ) (us : List ℕ) (n : ℕ) → n < 8 * load_bytes t → at_bit 0 (bit_in r at us) t n ≡ at_bit 0 (bit_in r' at us) t n
  bit_alike at us n l =
      let f = find_bit t n l in
      rw (
        f.place_is,
        at_bit_lem t 0 (bit_in r at us) f.segment f.member f.place f.small,
        at_bit_lem t 0 (bit_in r' at us) f.segment f.member f.place f.small,
        bit_in_alike f.segment f.member at us f.place f.small,
      )

  -- ---- the bytes that the decoded bits us give
  module _ (first : Bool) (us : List ℕ) where
    abbrev at : ℕ → ℕ
    at = label_at (start_state first) us

    bit_of_lem : (j : ℕ) → j < load_bytes t → (i : ℕ) → i < 8 → at_bit 0 (bit_in r at us) t (8 * j + i) ≡ at_bit 0 (bit_in r' at us) t (8 * j + i)
    bit_of_lem j l i s = bit_alike at us (8 * j + i) (omega arith)

    byte_alike : (j : ℕ) → j < load_bytes t → byte_of (λ i. at_bit 0 (bit_in r at us) t (8 * j + i)) ≡ byte_of (λ i. at_bit 0 (bit_in r' at us) t (8 * j + i))
    byte_alike j l =
        rw (
          bit_of_lem j l 0 (lit< tt),
          bit_of_lem j l 1 (lit< tt),
          bit_of_lem j l 2 (lit< tt),
          bit_of_lem j l 3 (lit< tt),
          bit_of_lem j l 4 (lit< tt),
          bit_of_lem j l 5 (lit< tt),
          bit_of_lem j l 6 (lit< tt),
          bit_of_lem j l 7 (lit< tt),
        )

    from_alike : bytes_from t r first us ≡ bytes_from t r' first us
    unfolding bytes_from
    from_alike =
        upto_cong (λ j. byte_of (λ i. at_bit 0 (bit_in r at us) t (8 * j + i))) (λ j. byte_of (λ i. at_bit 0 (bit_in r' at us) t (8 * j + i))) (load_bytes t) byte_alike

  -- ---- what is decoded
  module _ (knownStart first : Bool) where
    pub bits_alike : decoded_bits t r knownStart first ≡ decoded_bits t r' knownStart first
    unfolding decoded_bits
    bits_alike =
        rw (after_alike Isdb.half Isdb.labels Isdb.rule frame_traceback (λ k. four (metrics_at t r k)) (λ k. four (metrics_at t r' k))
        (record { values = start_values knownStart first; words = []; bits = [] }) (frame_steps t) step_alike)

    pub bytes_alike : decoded_bytes t r knownStart first ≡ decoded_bytes t r' knownStart first
    bytes_alike = rw bits_alike (from_alike first (decoded_bits t r' knownStart first))
