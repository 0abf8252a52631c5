-- A part of a run by itself: n steps behind q, both whole periods, encoded from the state reached, are the points of their place in the frame.
use Rattle.std.specs.Prelude.{◌≡◌, List, ℕ, ◌+◌, ◌-◌, ◌*◌, ◌/◌, ◌%◌, ◌<◌, ◌≤◌, get_or}
use Rattle.std.proofs.Math.Path.{refl, sym, ap}
use Rattle.std.proofs.Common.{◌∙◌, zero-add, add_assoc, arith}
use Rattle.std.proofs.Math.Nat.{mul-add-div_right, mul-add-mod_self_right}
use Rattle.std.proofs.Math.ListN.{length}
use Rattle.trellis.specs.Lists.{upto}
use Rattle.trellis.specs.Code.{state_at}
use Rattle.trellis.specs.ListLaws.{get_d_upto}
use Rattle.isdbs_combination.specs.declared.Combination.{Combination}
use Rattle.isdbs_combination.specs.declared.Combination.TheVariants.{Bpsk1_2, Qpsk1_2, Qpsk2_3, Qpsk3_4, Qpsk5_6, Qpsk7_8, Tc8psk2_3}
use Rattle.isdbs_combination.specs.declared.Modulation.{Modulation}
use Rattle.isdbs_combination.specs.declared.Modulation.TheVariants.{Bpsk, Qpsk, Tc8psk}
use Rattle.isdbs_combination.specs.Combinations.{modulation_of, puncture_of}
use Rattle.isdbs_plan.specs.declared.Run.{Run}
use Rattle.isdbs_points.specs.declared.Cplx.{Cplx}
use Rattle.isdbs_points.specs.declared.Mapping.{Mapping}
use Rattle.isdbs_points.specs.Points.{unused, bpsk_of, qpsk_of, psk8_of, subset}
use Rattle.isdbs_points.specs.Layout.{Segment, segments_from, among, sent_order, order_of, steps_per_period, load_bit, In}
use Rattle.isdbs_points.specs.Frame.{coded, input_in, coded_bit, sent_bit, label_at, point_in, point_by}
use Rattle.isdbs_points.specs.Pieces.{piece, piece_inputs, piece_state, symbols_by, piece_symbols, mapped}
use Rattle.isdbs_points.specs.StateLaws.{Follow, state_shift, label_shift}
use Rattle.isdbs_points.specs.PlaceLaws.{among_at}
use Rattle.encode_run.specs.Encoded.{piece_point}
use Rattle.encode_run.specs.PieceLaws.{is_bpsk_lem}
use Rattle.encode_main.specs.Encoding.{inputs_of, point_of, Tiled}
use Rattle.encode_main.specs.RunLaws.{InRange, in_range, sent_step, some_order, follow, sized}

-- the load's bits of n steps
abbrev pub bits_by : Modulation → ℕ → ℕ
bits_by Bpsk n = n
bits_by Qpsk n = n
bits_by Tc8psk n = 2 * n

coded_shift : (d : Modulation) (b q k : ℕ) → b + coded d (q + k) ≡ b + bits_by d q + coded d k
coded_shift Bpsk b q k = omega arith
coded_shift Qpsk b q k = omega arith
coded_shift Tc8psk b q k = omega arith

-- n steps are whole periods
abbrev pub Periods : Combination → ℕ → Type 0
Periods c n = n ≡ n / steps_per_period c * steps_per_period c

-- every period sends whole pairs; one of BPSK is a step, of two coded bits
pairs_of_lem : (c : Combination) (k : ℕ) → 2 * (k * (length (order_of c) / 2)) ≡ k * length (order_of c)
unfolding sent_order
pairs_of_lem Bpsk1_2 k = omega arith
pairs_of_lem Qpsk1_2 k = omega arith
pairs_of_lem Qpsk2_3 k = omega arith
pairs_of_lem Qpsk3_4 k = omega arith
pairs_of_lem Qpsk5_6 k = omega arith
pairs_of_lem Qpsk7_8 k = omega arith
pairs_of_lem Tc8psk2_3 k = omega arith

bpsk_sent : (c : Combination) (q : ℕ) → modulation_of c ≡ Bpsk → 2 * q ≡ q / steps_per_period c * length (order_of c)
bpsk_sent c q e = rw (is_bpsk_lem c e) (omega arith)

-- symbols add up over whole periods, and more steps have no fewer
pub symbols_add : (c : Combination) (q n : ℕ) → Periods c q → piece_symbols c (q + n) ≡ piece_symbols c q + piece_symbols c n
unfolding sent_order
symbols_add Bpsk1_2 q n w = omega arith
symbols_add Qpsk1_2 q n w = omega arith
symbols_add Qpsk2_3 q n w = omega arith
symbols_add Qpsk3_4 q n w = omega arith
symbols_add Qpsk5_6 q n w = omega arith
symbols_add Qpsk7_8 q n w = omega arith
symbols_add Tc8psk2_3 q n w = omega arith

pub symbols_more : (c : Combination) (a b : ℕ) → a ≤ b → piece_symbols c a ≤ piece_symbols c b
unfolding sent_order
symbols_more Bpsk1_2 a b h = omega arith
symbols_more Qpsk1_2 a b h = omega arith
symbols_more Qpsk2_3 a b h = omega arith
symbols_more Qpsk3_4 a b h = omega arith
symbols_more Qpsk5_6 a b h = omega arith
symbols_more Qpsk7_8 a b h = omega arith
symbols_more Tc8psk2_3 a b h = omega arith

module _ (m : Mapping) (load : List ℕ) (at at' : ℕ → ℕ) (g : Segment) (q n : ℕ) (whole : Periods g.combination q) (h : (k : ℕ) → k < n → at (g.step + (q + k)) ≡ at' (0 + k)) where
  abbrev c : Combination
  c = g.combination

  abbrev part : Segment
  part = piece c (g.bit + bits_by (modulation_of c) q)

  -- coded bit i of the part is the one of the run behind those of q steps
  sent_part : (i : ℕ) → i < n / steps_per_period c * length (order_of c) → sent_bit at g (q / steps_per_period c * length (order_of c) + i) ≡ sent_bit at' part i
  sent_part i l =
      let p = steps_per_period c in
      let o = length (order_of c) in
      let z = some_order (puncture_of c) in
      let e : (q / p * o + i) % o ≡ i % o = mul-add-mod_self_right (q / p) o i in
      let d : (q / p * o + i) / o ≡ q / p + i / o = mul-add-div_right {m = o} z (q / p) i in
      let a = get_or (order_of c) (i % o) 0 in
      let w : (q / p + i / o) * p + a / 2 ≡ q + (i / o * p + a / 2) = omega (arith, whole) in
      rw (e, d, w) (ap (λ (x : ℕ). coded_bit a x) (h (i / o * p + a / 2) (sent_step c n i l)))

  -- and its points are those of the run behind those of q steps
  bpsk_part : modulation_of c ≡ Bpsk → (j : ℕ) → InRange Bpsk c n j → sent_bit at g (2 * q + j) ≡ sent_bit at' part j
  bpsk_part e j r = ap (λ (x : ℕ). sent_bit at g (x + j)) (bpsk_sent c q e) ∙ sent_part j r

  point_part : (d : Modulation) → modulation_of c ≡ d → (j : ℕ) → InRange d c n j → point_by d m load at g (symbols_by d c q + j) ≡ point_by d m load at' part j
  unfolding point_by
  point_part Bpsk e j r = ap bpsk_of (bpsk_part e j r)
  point_part Qpsk e j r =
      let p = steps_per_period c in
      let o = length (order_of c) in
      let u : 2 * (q / p * (o / 2) + j) ≡ q / p * o + 2 * j = omega (arith, pairs_of_lem c (q / p)) in
      let v : 2 * (q / p * (o / 2) + j) + 1 ≡ q / p * o + (2 * j + 1) = omega (arith, pairs_of_lem c (q / p)) in
      rw (v, u)
      (ap (λ (x : ℕ). qpsk_of m.qpsk_p1_on_q x (sent_bit at g (q / p * o + (2 * j + 1)))) (sent_part (2 * j) (omega arith))
      ∙ ap (λ (x : ℕ). qpsk_of m.qpsk_p1_on_q (sent_bit at' part (2 * j)) x) (sent_part (2 * j + 1) r))
  point_part Tc8psk e j r =
      let b : g.bit + 2 * (q + j) ≡ g.bit + bits_by (modulation_of c) q + 2 * j = rw e (omega arith) in
      rw b (ap (λ (x : ℕ). psk8_of (4 * load_bit load (g.bit + bits_by (modulation_of c) q + 2 * j) + subset m.tc8psk_c1_is_y x)) (h j r))

-- ---- n steps behind q of a segment
module _ (rs : List Run) (m : Mapping) (load : List ℕ) (s : ℕ) (tl : Tiled rs) (g : Segment) (member : In g (segments_from rs 0 0)) (q n : ℕ) (whole : Periods g.combination q) (inside : q + n ≤ g.steps)
    (state : ℕ) (reached : state ≡ state_at 32 s (inputs_of rs load) (g.step + q)) where
  abbrev bit : ℕ
  bit = g.bit + bits_by (modulation_of g.combination) q

  follow_part : Follow (inputs_of rs load) (g.step + q) (piece_inputs g.combination load bit n) n
  follow_part k l =
      let c = g.combination in
      ap (λ (x : ℕ). get_or (inputs_of rs load) x 0) (add_assoc g.step q k)
      ∙ follow rs m load s tl g member (q + k) (omega arith)
      ∙ get_d_upto (input_in load (piece c g.bit)) 0 g.steps (q + k) (omega arith)
      ∙ ap (λ (x : ℕ). load_bit load x) (coded_shift (modulation_of c) g.bit q k)
      ∙ sym (get_d_upto (input_in load (piece c bit)) 0 n k l)

  pub state_part : (r : ℕ) → r ≡ piece_state g.combination load bit n state → r ≡ state_at 32 s (inputs_of rs load) (g.step + q + n)
  state_part r e =
      let vs = piece_inputs g.combination load bit n in
      e ∙ ap (λ (x : ℕ). state_at 32 x vs n) reached ∙ sym (state_shift 32 s (inputs_of rs load) (g.step + q) vs n follow_part)

  pub point_of_part : (j : ℕ) → j < piece_symbols g.combination n → piece_point g.combination m load bit n state j ≡ point_of rs m load s (g.symbol + (piece_symbols g.combination q + j))
  unfolding piece_point point_of
  point_of_part j l =
      let c = g.combination in
      let us = inputs_of rs load in
      let vs = piece_inputs c load bit n in
      let z = sized g (tl.whole g member) in
      let same : (k : ℕ) → k < n → label_at s us (g.step + (q + k)) ≡ label_at state vs (0 + k) =
      λ k l. ap (λ (x : ℕ). label_at s us x) (sym (add_assoc g.step q k)) ∙ label_shift s us (g.step + q) vs n follow_part k l ∙ rw (zero-add k, reached) in
      let fits : piece_symbols c q + j < g.symbols = omega (arith, symbols_add c q n whole, symbols_more c (q + n) g.steps inside, z.symbols_are) in
      ap (λ (p : Cplx). mapped m p) (
      sym (point_part m load (label_at s us) (label_at state vs) g q n whole same (modulation_of c) refl j (in_range c n j l))
      ∙ sym (among_at (λ g. g.symbol) (λ g. g.symbols) unused (point_in m load (label_at s us)) g (segments_from rs 0 0) 0 _ member tl.fill (piece_symbols c q + j) fits)
      )
