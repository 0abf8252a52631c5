-- A frame shows the inputs of a load that it is encoded from: at each step the coded bit that is read is the one that the encoder sends, so the inputs read off
-- and the states are the encoder's.
use Rattle.std.specs.Prelude.{◌≡◌, Bool, true, false, cond, List, T, ltb, get_or, length, Float}
use Rattle.std.proofs.Math.Path.{refl, ap}
use Rattle.std.proofs.Common.{sym, ◌∙◌, subst, inl, inr, mod-lt, arith, ltb→lt, lt→ltb, lit<, get_or-take}
use Prim.Native.Nat.{ℕ, zero, suc, ◌+◌, ◌*◌, ◌/◌, ◌%◌, ◌<◌, ◌≤◌}
use Rattle.std.specs.Float.{nan}
use Rattle.trellis.specs.ListLaws.{get_d_upto}
use Rattle.trellis.proofs.RunLaws.{label_under}
use Rattle.trellis.specs.Code.{isdb, state_at}
use Rattle.isdbs_combination.specs.declared.Combination.{Combination}
use Rattle.isdbs_combination.specs.declared.Modulation.{Modulation}
use Rattle.isdbs_combination.specs.declared.Modulation.TheVariants.{Bpsk, Qpsk, Tc8psk}
use Rattle.isdbs_tables.specs.declared.Table.{Table}
use Rattle.isdbs_combination.specs.Combinations.{modulation_of}
use Rattle.isdbs_frame.specs.Frame.{main_symbols}
use Rattle.isdbs_tables.specs.Tables.{TableAccepted}
use Rattle.isdbs_plan.specs.RunsOf.{frame_steps}
use Rattle.isdbs_points.specs.declared.Cplx.{Cplx}
use Rattle.isdbs_points.specs.declared.Mapping.{Mapping}
use Rattle.isdbs_points.specs.Points.{point, unused, subset, conjugated}
use Rattle.isdbs_points.specs.Layout.{Segment, segments, order_of, steps_per_period, at_step, load_bit, In}
use Rattle.trellis.specs.Lists.{first_place}
use Rattle.isdbs_points.specs.Frame.{inputs, label_at, coded_bit, sent_bit, point_by, point_in, point_at, start_state}
use Rattle.isdbs_points.specs.SizeLaws.{table_whole, symbol_fits, at_symbol_lem, at_step_lem, find_step}
use Rattle.isdbs_points.specs.OrderLaws.{Sends, Pairs, Kind, one, two, three, kind, Kept, mother, number, sent_at}
use Rattle.isdbs_points.specs.BitLaws.{load_bit_small, coded_small, subset_small, subset_back, of_pair}
use Rattle.isdbs_points.specs.InputLaws.{input_small}
use Rattle.isdbs_metrics.specs.Reading.{part_of}
use Rattle.wanted_read.specs.ReadOff.{shown, hard, psk8_label, which, bit_as, bit_by, input_from, read_state, read_input}
use Rattle.wanted_read.specs.Shown.{coded_input, hard_one, hard_part, label_back}
use Rattle.wanted_read.specs.Wanted.{EncodesTo}
use Rattle.trellis.specs.Isdb

-- ---- the coded bit that is read is sent
pub which_small : (g : Segment) (k : ℕ) → which g k < 2
which_small g k = go (ltb (first_place (mother g k 0) (order_of g.combination)) (length (order_of g.combination)))
  where
    go : (t : Bool) → cond t 0 1 < 2
    go true = lit< tt
    go false = lit< tt

pub which_sent : (g : Segment) (k : ℕ) → Kept (order_of g.combination) (k % steps_per_period g.combination)
    → first_place (mother g k (which g k)) (order_of g.combination) < length (order_of g.combination)
which_sent g k kept = go (ltb (first_place (mother g k 0) o) n) (ltb→lt (first_place (mother g k 0) o) n) (λ h. lt→ltb (first_place (mother g k 0) o) n h) kept
  where
    o : List ℕ
    o = order_of g.combination

    n : ℕ
    n = length o

    go : (t : Bool) → (T t → first_place (mother g k 0) o < n) → (first_place (mother g k 0) o < n → T t) → Kept o (k % steps_per_period g.combination) → first_place (mother g k (cond t 0 1)) o < n
    go true y x h = y tt
    go false y x (inl h) = absurd (x h)
    go false y x (inr h) = h

-- ---- the points of a load that encodes to the frame: each part is the lent one
module _ (t : Table) (m : Mapping) (first : Bool) (re im : List Float) (load : List ℕ) (e : EncodesTo t m first re im load) where
  pub re_at : (k : ℕ) → k < main_symbols → get_or re k nan ≡ (point_at t m load (start_state first) k).re
  re_at k h =
      sym (get_or-take main_symbols re k nan h) ∙ ap (λ (x : List Float). get_or x k nan) (sym e.re_is)
      ∙ get_d_upto (λ k. (point_at t m load (start_state first) k).re) nan main_symbols k h

  pub im_at : (k : ℕ) → k < main_symbols → get_or im k nan ≡ (point_at t m load (start_state first) k).im
  im_at k h =
      sym (get_or-take main_symbols im k nan h) ∙ ap (λ (x : List Float). get_or x k nan) (sym e.im_is)
      ∙ get_d_upto (λ k. (point_at t m load (start_state first) k).im) nan main_symbols k h

module _ (t : Table) (ok : TableAccepted t) (m : Mapping) (first : Bool) (re im : List Float) (load : List ℕ) (e : EncodesTo t m first re im load) where
  abbrev us : List ℕ
  us = inputs t load

  abbrev at : ℕ → ℕ
  at = label_at (start_state first) us

  abbrev z : ℕ → Cplx
  z = shown m re im

  module _ (g : Segment) (i : In g (segments t)) where
    abbrev c : Combination
    c = g.combination

    -- symbol j of a segment as it is read
    shown_at : (j : ℕ) → j < g.symbols → z (g.symbol + j) ≡ point (point_in m load at g j).re (conjugated m.conjugate (conjugated m.conjugate (point_in m load at g j).im))
    unfolding point_at
    shown_at j l =
        let f = symbol_fits t ok g i j l in
        rw (re_at t m first re im load e (g.symbol + j) f, im_at t m first re im load e (g.symbol + j) f, at_symbol_lem t unused (point_in m load at) g i j l)

    shown_by : (md : Modulation) → modulation_of c ≡ md → (j : ℕ) → j < g.symbols → z (g.symbol + j) ≡ point (point_by md m load at g j).re (conjugated m.conjugate (conjugated m.conjugate (point_by md m load at g j).im))
    shown_by md q j l = subst (λ (x : Modulation). z (g.symbol + j) ≡ point (point_by x m load at g j).re (conjugated m.conjugate (conjugated m.conjugate (point_by x m load at g j).im))) q (shown_at j l)

    -- ---- BPSK and QPSK
    label_small : (k : ℕ) → at k < 4
    label_small k = label_under isdb (get_or us k 0) (state_at 32 (start_state first) us k)

    sent_small : (n : ℕ) → sent_bit at g n < 2
    sent_small n =
        let l = length (order_of c) in
        let a = get_or (order_of c) (n % l) 0 in
        let k = g.step + (n / l * steps_per_period c + a / 2) in
        coded_small a (at k) (label_small k)

    one_shows : modulation_of c ≡ Bpsk → (n : ℕ) → n < g.symbols → hard (z (g.symbol + n)).re ≡ sent_bit at g n
    unfolding point_by
    one_shows q n l = ap (λ (x : Cplx). hard x.re) (shown_by Bpsk q n l) ∙ hard_one (sent_bit at g n) (sent_small n)

    two_shows : modulation_of c ≡ Qpsk → (n : ℕ) → n < 2 * g.symbols → hard (part_of m.qpsk_p1_on_q (z (g.symbol + n / 2)) (n % 2)) ≡ sent_bit at g n
    unfolding point_by
    two_shows q n l =
        ap (λ (x : Cplx). hard (part_of m.qpsk_p1_on_q x (n % 2))) (shown_by Qpsk q (n / 2) (omega arith))
        ∙ hard_part m.qpsk_p1_on_q m.conjugate (sent_bit at g (2 * (n / 2))) (sent_bit at g (2 * (n / 2) + 1))
        (sent_small (2 * (n / 2))) (sent_small (2 * (n / 2) + 1)) (n % 2) (mod-lt n (lit< tt))
        ∙ of_pair (sent_bit at g) n

    module _ (w : ℕ) (s : Sends c w) (k : ℕ) (K : k < g.steps) where
      abbrev b : ℕ
      b = which g k

      place_small : first_place (mother g k b) (order_of c) < length (order_of c)
      place_small = which_sent g k (s.kept (k % steps_per_period c) (mod-lt k s.period))

      number_small : number g k b < w * g.symbols
      number_small =
          let o = table_whole t ok g i in
          rw o.symbols_are (s.room o.units k (first_place (mother g k b) (order_of c)) (rw o.steps_are at K) place_small)

      sent_is : sent_bit at g (number g k b) ≡ coded_bit b (at (g.step + k))
      sent_is = sent_at g k b at s.period (which_small g k) place_small

    -- ---- TC8PSK
    module _ (q : modulation_of c ≡ Tc8psk) (s : Pairs c) (k : ℕ) (K : k < g.steps) where
      pub tc_shows : psk8_label (z (g.symbol + k)) ≡ 4 * load_bit load (g.bit + 2 * k) + subset m.tc8psk_c1_is_y (at (g.step + k))
      unfolding point_by
      tc_shows =
          let o = table_whole t ok g i in
          let r = s.symbols o.units in
          rw (shown_by Tc8psk q k (omega (arith, o.symbols_are, o.steps_are)))
          (label_back m.conjugate (4 * load_bit load (g.bit + 2 * k) + subset m.tc8psk_c1_is_y (at (g.step + k)))
          (omega (arith, load_bit_small load (g.bit + 2 * k), subset_small m.tc8psk_c1_is_y (at (g.step + k)) (label_small (g.step + k)))))

      pub tc_pair : subset m.tc8psk_c1_is_y (psk8_label (z (g.symbol + k)) % 4) ≡ at (g.step + k)
      tc_pair =
          let l = subset m.tc8psk_c1_is_y (at (g.step + k)) in
          let small = subset_small m.tc8psk_c1_is_y (at (g.step + k)) (label_small (g.step + k)) in
          let r : psk8_label (z (g.symbol + k)) % 4 ≡ l = rw tc_shows (omega arith) in
          rw r (subset_back m.tc8psk_c1_is_y (at (g.step + k)) (label_small (g.step + k)))

      pub tc_uncoded : psk8_label (z (g.symbol + k)) / 4 ≡ load_bit load (g.bit + 2 * k)
      tc_uncoded =
          let small = subset_small m.tc8psk_c1_is_y (at (g.step + k)) (label_small (g.step + k)) in
          rw tc_shows (omega arith)

    -- ---- a step of any segment
    bit_shown : (k : ℕ) → k < g.steps → bit_by m z (modulation_of c) g k ≡ coded_bit (which g k) (at (g.step + k))
    unfolding bit_as
    bit_shown k K = go (kind c)
      where
        go : Kind c → bit_by m z (modulation_of c) g k ≡ coded_bit (which g k) (at (g.step + k))
        go (one q s) = rw q (one_shows q (number g k (which g k)) (let h = number_small 1 s k K in omega arith) ∙ sent_is 1 s k K)
        go (two q s) = rw q (two_shows q (number g k (which g k)) (number_small 2 s k K) ∙ sent_is 2 s k K)
        go (three q s) = rw q (ap (coded_bit (which g k)) (tc_pair q s k K))

  -- ---- the frame's steps: from the encoder's state the input read off is the encoder's
  abbrev encoder : ℕ → ℕ
  encoder n = state_at 32 (start_state first) us n

  input_from_lem : (n : ℕ) → n < frame_steps t → at_step 0 (input_from m z (encoder n)) t n ≡ get_or us n 0
  input_from_lem n l =
      let f = find_step t n l in
      let g = f.segment in
      let k = f.place in
      let N : n ≡ g.step + k = f.place_is in
      let step : at_step 0 (input_from m z (encoder n)) t (g.step + k) ≡ input_from m z (encoder n) g k = at_step_lem t 0 (input_from m z (encoder n)) g f.member k f.small in
      let shows : bit_by m z (modulation_of g.combination) g k ≡ coded_bit (which g k) (at n) = bit_shown g f.member k f.small ∙ ap (λ (x : ℕ). coded_bit (which g k) (at x)) (sym N) in
      ap (at_step 0 (input_from m z (encoder n)) t) N ∙ step
      ∙ ap (λ (x : ℕ). (x + coded_bit (which g k) (Isdb.labels 0 (encoder n))) % 2) shows
      ∙ coded_input (which g k) (get_or us n 0) (encoder n) (input_small t load n l)

  state_is : (n : ℕ) → n ≤ frame_steps t → read_state m z t (start_state first) n ≡ encoder n
  unfolding read_state state_at
  state_is zero h = refl
  state_is (suc n) h =
      rw (state_is n (omega arith), input_from_lem n h)

  pub input_is : (n : ℕ) → n < frame_steps t → read_input m z t (start_state first) n ≡ get_or us n 0
  input_is n h = rw (state_is n (omega arith)) (input_from_lem n h)
