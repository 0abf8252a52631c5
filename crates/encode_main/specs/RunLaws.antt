-- A frame is its runs' points one after the other: the points of a run by itself, encoded from the state reached, are those of its place in the frame.
use Rattle.isdbs_combination.specs.declared.Puncture.{Puncture}
use Rattle.std.specs.Prelude.{◌≡◌, refl, Bool, true, false, cond, List, [], ◌∷◌, ◌++◌, ℕ, zero, suc, ◌+◌, ◌-◌, ◌*◌, ◌/◌, ◌%◌, ◌<◌, ◌≤◌, Float, length, get_or, take, drop, Option, Some, None}
use Rattle.std.proofs.Math.Path.{sym, ap}
use Rattle.std.proofs.Common.{◌∙◌, zero-add, add-zero, add_assoc, not-suc-le-zero, mul-le-mul_right, div-mul-le_self, div-lt_iff_lt-mul, arith, get_or-take}
use Rattle.trellis.specs.Lists.{upto, laid}
use Rattle.trellis.specs.Code.{state_at}
use Rattle.trellis.specs.ListLaws.{get_d_upto}
use Rattle.isdbs_combination.specs.declared.Combination.{Combination}
use Rattle.isdbs_combination.specs.declared.Combination.TheVariants.{Bpsk1_2, Qpsk1_2, Qpsk2_3, Qpsk3_4, Qpsk5_6, Qpsk7_8, Tc8psk2_3}
use Rattle.isdbs_combination.specs.declared.Modulation.{Modulation}
use Rattle.isdbs_combination.specs.declared.Modulation.TheVariants.{Bpsk, Qpsk, Tc8psk}
use Rattle.isdbs_plan.specs.declared.Run.{Run}
use Rattle.isdbs_combination.specs.Combinations.{modulation_of, puncture_of, unit_of, slot_steps, period_steps}
use Rattle.isdbs_plan.specs.RunsOf.{steps_in, steps_of, no_run}
use Rattle.isdbs_points.specs.declared.Cplx.{Cplx}
use Rattle.isdbs_points.specs.declared.Mapping.{Mapping}
use Rattle.isdbs_points.specs.Points.{unused, bpsk_of, qpsk_of, psk8_of, subset}
use Rattle.isdbs_points.specs.Layout.{Segment, segment_of, segments_from, among, sent_order, order_of, steps_per_period, order_in, load_bit, In}
use Rattle.isdbs_points.specs.Frame.{input_in, coded_bit, sent_bit, label_at, point_in, point_by}
use Rattle.isdbs_points.specs.Pieces.{piece, piece_inputs, piece_state, piece_symbols, mapped}
use Rattle.encode_run.specs.Encoded.{piece_point, piece_re, piece_im, PieceEncoded}
use Rattle.isdbs_points.specs.StateLaws.{Follow, state_shift, label_shift}
use Rattle.isdbs_points.specs.PlaceLaws.{fill_member, among_at, get_d_in, before, before_more, fill_first}
use Rattle.isdbs_points.specs.SizeLaws.{Whole, fill_steps}
use Rattle.encode_main.specs.Encoding.{symbols_of, inputs_of, point_of, Tiled, RunsMade}
use Rattle.encode_run.specs.PieceLaws.{put_part, Going, tail_back}
use Rattle.encode_run.specs.PatternLaws.{pattern_some, pattern_none}

-- ---- the coded bits that a run sends are of its steps
within_period : (p : Option Puncture) (k : ℕ) → get_or (order_in p) k 0 / 2 < period_steps p
within_period (Some p) k = rw (← (pattern_some p).period_is) ((pattern_some p).within k)
within_period None k = pattern_none.within k

pub some_order : (p : Option Puncture) → 0 < length (order_in p)
some_order (Some p) = omega (arith, (pattern_some p).count_is, (pattern_some p).pairs_many)
some_order None = omega (arith, pattern_none.count_is, pattern_none.pairs_many)

pub sent_step : (c : Combination) (n i : ℕ) → i < n / steps_per_period c * length (order_of c)
    → i / length (order_of c) * steps_per_period c + get_or (order_of c) (i % length (order_of c)) 0 / 2 < n
sent_step c n i h =
    let p = steps_per_period c in
    let q = i / length (order_of c) in
    let l : q < n / p = (div-lt_iff_lt-mul (some_order (puncture_of c))).1 h in
    let x : (q + 1) * p ≤ n / p * p = mul-le-mul_right p (omega arith) in
    let z : n / p * p ≤ n = div-mul-le_self n p in
    let w : get_or (order_of c) (i % length (order_of c)) 0 / 2 < p = within_period (puncture_of c) (i % length (order_of c)) in
    let e : (q + 1) * p ≡ q * p + p = omega arith in
    omega arith

-- the steps of a slot are whole bytes of TC8PSK
pub slot_steps_four : (c : Combination) (v : ℕ) → slot_steps c * v % 4 ≡ 0
slot_steps_four Bpsk1_2 v = omega arith
slot_steps_four Qpsk1_2 v = omega arith
slot_steps_four Qpsk2_3 v = omega arith
slot_steps_four Qpsk3_4 v = omega arith
slot_steps_four Qpsk5_6 v = omega arith
slot_steps_four Qpsk7_8 v = omega arith
slot_steps_four Tc8psk2_3 v = omega arith

-- symbol j is one of n steps
abbrev pub InRange : Modulation → Combination → ℕ → ℕ → Type 0
InRange Bpsk c n j = j < n / steps_per_period c * length (order_of c)
InRange Qpsk c n j = 2 * j + 1 < n / steps_per_period c * length (order_of c)
InRange Tc8psk c n j = j < n

pub in_range : (c : Combination) (n j : ℕ) → j < piece_symbols c n → InRange (modulation_of c) c n j
unfolding sent_order
in_range Bpsk1_2 n j h = omega arith
in_range Qpsk1_2 n j h = omega arith
in_range Qpsk2_3 n j h = omega arith
in_range Qpsk3_4 n j h = omega arith
in_range Qpsk5_6 n j h = omega arith
in_range Qpsk7_8 n j h = omega arith
in_range Tc8psk2_3 n j h = h

module _ (m : Mapping) (load : List ℕ) (at at' : ℕ → ℕ) (g : Segment) (n : ℕ) (h : (k : ℕ) → k < n → at (g.step + k) ≡ at' (0 + k)) where
  sent_same : (i : ℕ) → i < n / steps_per_period g.combination * length (order_of g.combination)
      → sent_bit at g i ≡ sent_bit at' (piece g.combination g.bit) i
  sent_same i l =
      let c = g.combination in
      let a = get_or (order_of c) (i % length (order_of c)) 0 in
      ap (λ (x : ℕ). coded_bit a x) (h (i / length (order_of c) * steps_per_period c + a / 2) (sent_step c n i l))

  point_same : (d : Modulation) (j : ℕ) → InRange d g.combination n j → point_by d m load at g j ≡ point_by d m load at' (piece g.combination g.bit) j
  unfolding point_by
  point_same Bpsk j r = ap bpsk_of (sent_same j r)
  point_same Qpsk j r =
      ap (λ (x : ℕ). qpsk_of m.qpsk_p1_on_q x (sent_bit at g (2 * j + 1))) (sent_same (2 * j) (omega arith))
      ∙ ap (λ (x : ℕ). qpsk_of m.qpsk_p1_on_q (sent_bit at' (piece g.combination g.bit) (2 * j)) x) (sent_same (2 * j + 1) r)
  point_same Tc8psk j r = ap (λ (x : ℕ). psk8_of (4 * load_bit load (g.bit + 2 * j) + subset m.tc8psk_c1_is_y x)) (h j r)

-- ---- whole units
pub record Sized (c : Combination) (symbols n bits : ℕ) : Type 0 where
  pub symbols_are : piece_symbols c n ≡ symbols
  pub periods : n ≡ n / steps_per_period c * steps_per_period c
  pub few_bits : bits ≤ 2 * symbols
  pub few_steps : n ≤ bits

units : (c : Combination) (u : ℕ) → Sized c (u * ((unit_of c).slots * 812)) (slot_steps c * (u * (unit_of c).valid)) (1624 * (u * (unit_of c).valid))
unfolding sent_order
units Bpsk1_2 u = record { symbols_are = omega arith; periods = omega arith; few_bits = omega arith; few_steps = omega arith }
units Qpsk1_2 u = record { symbols_are = omega arith; periods = omega arith; few_bits = omega arith; few_steps = omega arith }
units Qpsk2_3 u = record { symbols_are = omega arith; periods = omega arith; few_bits = omega arith; few_steps = omega arith }
units Qpsk3_4 u = record { symbols_are = omega arith; periods = omega arith; few_bits = omega arith; few_steps = omega arith }
units Qpsk5_6 u = record { symbols_are = omega arith; periods = omega arith; few_bits = omega arith; few_steps = omega arith }
units Qpsk7_8 u = record { symbols_are = omega arith; periods = omega arith; few_bits = omega arith; few_steps = omega arith }
units Tc8psk2_3 u = record { symbols_are = omega arith; periods = omega arith; few_bits = omega arith; few_steps = omega arith }

pub sized : (g : Segment) → Whole g → Sized g.combination g.symbols g.steps g.bits
sized g w = rw (w.symbols_are, w.steps_are, w.bits_are) (units g.combination w.units)

-- ---- the segments by number
abbrev pub no_segment : Segment
no_segment = segment_of no_run 0 0

pub length_segments : (rs : List Run) (s b : ℕ) → length (segments_from rs s b) ≡ length rs
unfolding segments_from
length_segments [] s b = refl
length_segments (r ∷ rs) s b = ap suc (length_segments rs (s + steps_of r) (b + 1624 * r.valid_slots))

pub segment_at : (rs : List Run) (s b i : ℕ) → i < length rs
    → get_or (segments_from rs s b) i no_segment
    ≡ segment_of (get_or rs i no_run) (s + before (λ g. g.steps) (segments_from rs s b) i) (b + before (λ g. g.bits) (segments_from rs s b) i)
unfolding segments_from before
segment_at [] s b i h = absurd (not-suc-le-zero h)
segment_at (r ∷ rs) s b zero h = rw (add-zero s, add-zero b)
segment_at (r ∷ rs) s b (suc i) h =
    let s' = s + steps_of r in
    let b' = b + 1624 * r.valid_slots in
    segment_at rs s' b' i (omega arith)
    ∙ rw (add_assoc s (steps_of r) (before (λ g. g.steps) (segments_from rs s' b') i), add_assoc b (1624 * r.valid_slots) (before (λ g. g.bits) (segments_from rs s' b') i))

-- ---- a run more
module _ (rs : List Run) (m : Mapping) (load : List ℕ) (s : ℕ) (tl : Tiled rs) where
  abbrev segs : List Segment
  segs = segments_from rs 0 0

  abbrev pub runs_re : ℕ → Float
  runs_re = λ k. (point_of rs m load s k).re

  abbrev pub runs_im : ℕ → Float
  runs_im = λ k. (point_of rs m load s k).im

  pub follow : (g : Segment) → In g segs → Follow (inputs_of rs load) g.step (piece_inputs g.combination load g.bit g.steps) g.steps
  follow g i k l =
      let f = fill_steps rs 0 0 in
      let r = (fill_member (λ g. g.step) (λ g. g.steps) g segs 0 (0 + steps_in rs) i f).1 in
      get_d_upto (among (λ g. g.step) (λ g. g.steps) 0 (input_in load) segs) 0 (steps_in rs) (g.step + k) (omega arith)
      ∙ among_at (λ g. g.step) (λ g. g.steps) 0 (input_in load) g segs 0 (0 + steps_in rs) i f k l
      ∙ sym (get_d_upto (input_in load (piece g.combination g.bit)) 0 g.steps k l)

  point_of_lem : (g : Segment) → In g segs → (state : ℕ) → state ≡ state_at 32 s (inputs_of rs load) g.step → (j : ℕ) → j < g.symbols
      → piece_point g.combination m load g.bit g.steps state j ≡ point_of rs m load s (g.symbol + j)
  unfolding piece_point point_of
  point_of_lem g i state e j l =
      let c = g.combination in
      let us = inputs_of rs load in
      let vs = piece_inputs c load g.bit g.steps in
      let z = sized g (tl.whole g i) in
      let same : (k : ℕ) → k < g.steps → label_at s us (g.step + k) ≡ label_at state vs (0 + k) =
      λ k l. label_shift s us g.step vs g.steps (follow g i) k l ∙ rw (zero-add k, e) in
      ap (λ (p : Cplx). mapped m p) (
      sym (point_same m load (label_at s us) (label_at state vs) g g.steps same (modulation_of c) j (in_range c g.steps j (rw z.symbols_are l)))
      ∙ sym (among_at (λ g. g.symbol) (λ g. g.symbols) unused (point_in m load (label_at s us)) g segs 0 _ i tl.fill j l)
      )

  pub going_run : {re₀ im₀ re im re' im' : List Float} {state r : ℕ} (g : Segment) → In g segs
      → Going (inputs_of rs load) s runs_re runs_im re₀ im₀ re im state g.step g.symbol
      → 38976 ≤ length re₀ → 38976 ≤ length im₀ → r < 64 → r ≡ piece_state g.combination load g.bit g.steps state
      → re' ≡ take g.symbol re ++ laid (upto (λ j. (piece_point g.combination m load g.bit g.steps state j).re) (piece_symbols g.combination g.steps)) (drop g.symbol re)
      → im' ≡ take g.symbol im ++ laid (upto (λ j. (piece_point g.combination m load g.bit g.steps state j).im) (piece_symbols g.combination g.steps)) (drop g.symbol im)
      → Going (inputs_of rs load) s runs_re runs_im re₀ im₀ re' im' r (g.step + g.steps) (g.symbol + g.symbols)
  going_run {re₀} {im₀} {re} {im} {re'} {im'} {state} {r} g i w hr hi small er ere eim =
      let c = g.combination in
      let us = inputs_of rs load in
      let vs = piece_inputs c load g.bit g.steps in
      let z = sized g (tl.whole g i) in
      let f = (fill_member (λ g. g.symbol) (λ g. g.symbols) g segs 0 _ i tl.fill).1 in
      let fits = tl.fits in
      record {
        small = small;
        state_is = er ∙ ap (λ (x : ℕ). state_at 32 x vs g.steps) w.state_is ∙ sym (state_shift 32 s us g.step vs g.steps (follow g i));
        points = put_part w.points (λ j. (piece_point c m load g.bit g.steps state j).re) (λ j. (piece_point c m load g.bit g.steps state j).im) g.symbols re' im'
            (omega arith) (omega arith) (rw z.symbols_are at ere) (rw z.symbols_are at eim)
            (λ j l. ap (λ (p : Cplx). p.re) (point_of_lem g i state w.state_is j l)) (λ j l. ap (λ (p : Cplx). p.im) (point_of_lem g i state w.state_is j l));
      }

-- ---- run i of a list
abbrev pub symbols_at : List Run → ℕ → ℕ
symbols_at rs i = before (λ g. g.symbols) (segments_from rs 0 0) i

abbrev pub steps_at : List Run → ℕ → ℕ
steps_at rs i = before (λ g. g.steps) (segments_from rs 0 0) i

abbrev pub bits_at : List Run → ℕ → ℕ
bits_at rs i = before (λ g. g.bits) (segments_from rs 0 0) i

pub record RunAt (rs : List Run) (i : ℕ) (r : Run) : Type 0 where
  pub member : In (segment_of r (steps_at rs i) (bits_at rs i)) (segments_from rs 0 0)
  pub starts : r.symbol_start ≡ symbols_at rs i
  pub ends : r.symbol_end ≡ symbols_at rs (i + 1)
  pub symbols : symbols_at rs (i + 1) ≡ symbols_at rs i + (r.symbol_end - r.symbol_start)
  pub steps : steps_at rs (i + 1) ≡ steps_at rs i + steps_of r
  pub bits : bits_at rs (i + 1) ≡ bits_at rs i + 1624 * r.valid_slots
  pub fits : symbols_at rs (i + 1) ≤ 38976
  pub size : Sized r.combination (r.symbol_end - r.symbol_start) (steps_of r) (1624 * r.valid_slots)
  pub few_bits : 1624 * r.valid_slots ≤ 2 * (r.symbol_end - r.symbol_start)
  pub few_steps : steps_of r ≤ 77952

run_at : (rs : List Run) → Tiled rs → (i : ℕ) → i < length rs → RunAt rs i (get_or rs i no_run)
run_at rs tl i h =
    let segs = segments_from rs 0 0 in
    let d = no_segment in
    let r = get_or rs i no_run in
    let l : i < length segs = rw (length_segments rs 0 0) h in
    let g = segment_of r (steps_at rs i) (bits_at rs i) in
    let e : get_or segs i d ≡ g = rw (zero-add (steps_at rs i), zero-add (bits_at rs i)) at (segment_at rs 0 0 i h) in
    let mem : In g segs = rw e at (get_d_in segs i d l) in
    let symbol-is : r.symbol_start ≡ 0 + symbols_at rs i = rw e at (fill_first (λ g. g.symbol) (λ g. g.symbols) segs 0 _ tl.fill i d l) in
    let more : symbols_at rs (i + 1) ≡ symbols_at rs i + (r.symbol_end - r.symbol_start) = rw e at (before_more (λ g. g.symbols) segs i d l) in
    let o = tl.ordered i h in
    let top = (fill_member (λ g. g.symbol) (λ g. g.symbols) g segs 0 _ mem tl.fill).1 in
    let fits = tl.fits in
    let z = sized g (tl.whole g mem) in
    let zb = z.few_bits in
    let zs = z.few_steps in
    record {
      member = mem;
      starts = omega arith;
      ends = omega arith;
      symbols = more;
      steps = rw e at (before_more (λ g. g.steps) segs i d l);
      bits = rw e at (before_more (λ g. g.bits) segs i d l);
      fits = omega arith;
      size = z;
      few_bits = zb;
      few_steps = omega arith;
    }

pub run_in : (list : List Run) (count i : ℕ) → length (take count list) ≡ count → Tiled (take count list) → i < count → RunAt (take count list) i (get_or list i no_run)
run_in list count i e tl h = rw (get_or-take count list i no_run h) at (run_at (take count list) tl i (rw e h))

-- ---- run i of the first `count` of a list, encoded over the parts from its first symbol on
module _ (list : List Run) (count : ℕ) (m : Mapping) (load : List ℕ) (s : ℕ) where
  abbrev rs : List Run
  rs = take count list

  pub run_more : length rs ≡ count → (tl : Tiled rs) → (i : ℕ) → i < count → {re₀ im₀ re im : List Float} {state : ℕ}
      → Going (inputs_of rs load) s (λ k. (point_of rs m load s k).re) (λ k. (point_of rs m load s k).im) re₀ im₀ re im state (steps_at rs i) (symbols_at rs i)
      → 38976 ≤ length re₀ → 38976 ≤ length im₀ → (bit n r : ℕ) → bit ≡ bits_at rs i → n ≡ steps_of (get_or list i no_run) → {p q : List Float}
      → PieceEncoded (get_or list i no_run).combination m load bit n state r
      (take (length re - (get_or list i no_run).symbol_start) (drop (get_or list i no_run).symbol_start re)) p
      (take (length im - (get_or list i no_run).symbol_start) (drop (get_or list i no_run).symbol_start im)) q
      → Going (inputs_of rs load) s (λ k. (point_of rs m load s k).re) (λ k. (point_of rs m load s k).im) re₀ im₀
      (take (get_or list i no_run).symbol_start re ++ (p ++ drop (length re - (get_or list i no_run).symbol_start) (drop (get_or list i no_run).symbol_start re)))
      (take (get_or list i no_run).symbol_start im ++ (q ++ drop (length im - (get_or list i no_run).symbol_start) (drop (get_or list i no_run).symbol_start im)))
      r (steps_at rs (i + 1)) (symbols_at rs (i + 1))
  run_more el tl i h {re₀} {im₀} {re} {im} {state} w hr hi bit n r eb en {p} {q} t =
      let run = get_or list i no_run in
      let start = run.symbol_start in
      let a = run_in list count i el tl h in
      let f = a.fits in
      let g = segment_of run (steps_at rs i) (bits_at rs i) in
      let w' : Going (inputs_of rs load) s (λ k. (point_of rs m load s k).re) (λ k. (point_of rs m load s k).im) re₀ im₀ re im state (steps_at rs i) start = rw a.starts w in
      let t' : PieceEncoded run.combination m load (bits_at rs i) (steps_of run) state r (take (length re - start) (drop start re)) p (take (length im - start) (drop start im)) q =
      rw (← eb, ← en) t in
      let lr : start ≤ length re = omega (arith, w.points.re_length, a.starts, a.symbols) in
      let li : start ≤ length im = omega (arith, w.points.im_length, a.starts, a.symbols) in
      rw (a.steps, a.symbols, ← a.starts)
      (going_run rs m load s tl g a.member w' hr hi t'.small t'.state_is
      (tail_back start re (piece_re run.combination m load (bits_at rs i) (steps_of run) state) lr t'.re_is)
      (tail_back start im (piece_im run.combination m load (bits_at rs i) (steps_of run) state) li t'.im_is))

-- ---- all runs
pub runs_end : (rs : List Run) (m : Mapping) (load : List ℕ) (s : ℕ) {re₀ im₀ re im : List Float} {state k j : ℕ}
    → Going (inputs_of rs load) s (λ k. (point_of rs m load s k).re) (λ k. (point_of rs m load s k).im) re₀ im₀ re im state k j
    → (end : ℕ) → k ≡ steps_in rs → j ≡ symbols_of rs → end ≡ j → RunsMade rs m load s (record { state = state; end = end }) re₀ re im₀ im
runs_end rs m load s w end ek ej ee =
    record { end_is = ee ∙ ej; state_is = rw ek at w.state_is; re_is = rw ej at w.points.re_is; im_is = rw ej at w.points.im_is }
