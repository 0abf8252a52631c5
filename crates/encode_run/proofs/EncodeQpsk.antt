-- The points of a QPSK run, period by period.
use mathlib.Core.Path.{◌≡◌, refl, sym, ◌∙◌, ap}
use mathlib.Core.Bool.{Bool, true, false, cond}
use mathlib.Core.List.{List, ◌++◌}
use Prim.Native.Nat.{ℕ, ◌+◌, ◌-◌, ◌*◌, ◌/◌, ◌%◌, ◌<◌, ◌≤◌, ◌^◌}
use native.Mathlib.Nat.{zero-add, zero-mul, one-mul, add-zero, add_assoc, add-mul, mul-le-mul_left, mul-le-mul_right, div-le_self, div-mul-le_self, mul-add-div_right, mul-add-mod_self_right, mod-eq_of_lt, div-eq_of_lt, div-add-mod', mod-lt}
use native.Mathlib.Omega.{arith}
use borrow.Author.Tests.{ltb-true, ltb-false}
use borrow.Rule.Slice.PartMut.{put_mid}
use lib.Dec.{eqb, ltb}
use lib.Ieee.{Float, nan}
use lib.ListN.{length, get_or, take, drop, length-take, length-drop}
use Rattle.trellis.specs.Lists.{upto, laid}
use Rattle.trellis.specs.Code.{state_at}
use Rattle.encode_bits.specs.Windows.{backward}
use Rattle.encode_bits.specs.WindowLaws.{backward_small, backward_twice}
use Rattle.isdbs_combination.specs.declared.Combination.{Combination}
use Rattle.isdbs_combination.specs.declared.Combination.TheVariants.{Bpsk1_2, Qpsk1_2, Qpsk2_3, Qpsk3_4, Qpsk5_6, Qpsk7_8, Tc8psk2_3}
use Rattle.isdbs_combination.specs.declared.Modulation.TheVariants.{Qpsk}
use Rattle.isdbs_combination.specs.Combinations.{modulation_of, puncture_of}
use Rattle.isdbs_points.specs.declared.Cplx.{Cplx}
use Rattle.isdbs_points.specs.declared.Mapping.{Mapping}
use Rattle.encode_run.specs.declared.Pattern.{Pattern}
use Rattle.encode_run.specs.declared.Period.{Period}
use Rattle.isdbs_points.specs.declared.PointTable.{PointTable}
use Rattle.isdbs_points.specs.Points.{qpsk_of}
use Rattle.isdbs_points.specs.Layout.{order_of, steps_per_period, load_bit}
use Rattle.isdbs_points.specs.Frame.{sent_bit, label_at, point_in, point_by}
use Rattle.isdbs_points.specs.Pieces.{piece, piece_inputs, piece_symbols, mapped}
use Rattle.encode_bits.specs.Bits.{plain_inputs, word_bit}
use Rattle.encode_run.specs.Encoded.{piece_point, TableOf, qpsk_label, PatternOf, AtMost, Shifted, shift_of, output_bit, IsOutput, shifted_label, pair_label, pattern_bit, pattern_label, PeriodEncoded, PieceEncoded}
use Rattle.trellis.specs.LaidLaws.{upto_cong}
use Rattle.trellis.specs.ListLaws.{get_d_upto}
use Rattle.isdbs_points.specs.StateLaws.{Follow}
use Rattle.encode_run.proofs.Windowed.{shift_output, shift_bit}
use Rattle.encode_run.specs.PieceLaws.{Going, label_small, label_more, going_start, going_part, tail_back}

-- each period has its steps among n, and its symbols among a and among b
abbrev pub Room : ℕ → ℕ → ℕ → ℕ → ℕ → ℕ → Type 0
Room periods period count n a b = (q : ℕ) → q < periods → (q * period + period ≤ n) × (q * count + count ≤ a) × (q * count + count ≤ b)

-- the quotient and the remainder of q n + r
module _ (n q r x : ℕ) (h : r < n) (e : x ≡ q * n + r) where
  pub quotient : x / n ≡ q
  quotient = rw e (mul-add-div_right (omega (arith, h)) q r ∙ ap (λ (y : ℕ). q + y) (div-eq_of_lt h) ∙ add-zero q)

  pub remainder : x % n ≡ r
  remainder = rw e (mul-add-mod_self_right q n r ∙ mod-eq_of_lt h)

-- ---- a QPSK combination
pub plain : (c : Combination) (load : List ℕ) (bit n : ℕ) → modulation_of c ≡ Qpsk → piece_inputs c load bit n ≡ plain_inputs load bit n
plain Bpsk1_2 load bit n e = cc
plain Qpsk1_2 load bit n e = refl
plain Qpsk2_3 load bit n e = refl
plain Qpsk3_4 load bit n e = refl
plain Qpsk5_6 load bit n e = refl
plain Qpsk7_8 load bit n e = refl
plain Tc8psk2_3 load bit n e = cc

pub in_qpsk : (c : Combination) (m : Mapping) (load : List ℕ) (at : ℕ → ℕ) (bit j : ℕ) → modulation_of c ≡ Qpsk
    → point_in m load at (piece c bit) j ≡ qpsk_of m.qpsk_p1_on_q (sent_bit at (piece c bit) (2 * j)) (sent_bit at (piece c bit) (2 * j + 1))
unfolding point_by
in_qpsk Bpsk1_2 m load at bit j e = cc
in_qpsk Qpsk1_2 m load at bit j e = refl
in_qpsk Qpsk2_3 m load at bit j e = refl
in_qpsk Qpsk3_4 m load at bit j e = refl
in_qpsk Qpsk5_6 m load at bit j e = refl
in_qpsk Qpsk7_8 m load at bit j e = refl
in_qpsk Tc8psk2_3 m load at bit j e = cc

pub symbols_qpsk : (c : Combination) (n : ℕ) → modulation_of c ≡ Qpsk → piece_symbols c n ≡ n / steps_per_period c * (length (order_of c) / 2)
symbols_qpsk Bpsk1_2 n e = cc
symbols_qpsk Qpsk1_2 n e = refl
symbols_qpsk Qpsk2_3 n e = refl
symbols_qpsk Qpsk3_4 n e = refl
symbols_qpsk Qpsk5_6 n e = refl
symbols_qpsk Qpsk7_8 n e = refl
symbols_qpsk Tc8psk2_3 n e = cc

-- ---- the room of a run
module _ (c : Combination) (p : Pattern) (r : PatternOf (puncture_of c) p) where
  pub half_order : length (order_of c) / 2 ≡ p.count
  half_order = rw r.count_is (omega arith)

  pub room : (n a b : ℕ) → modulation_of c ≡ Qpsk → piece_symbols c n ≤ a → piece_symbols c n ≤ b → Room (n / p.period) p.period p.count n a b
  room n a b e ha hb q h =
      let s : piece_symbols c n ≡ n / p.period * p.count = symbols_qpsk c n e ∙ rw (half_order, ← r.period_is) in
      let x : (q + 1) * p.period ≤ n / p.period * p.period = mul-le-mul_right p.period (omega arith) in
      let y : (q + 1) * p.count ≤ n / p.period * p.count = mul-le-mul_right p.count (omega arith) in
      let z : n / p.period * p.period ≤ n = div-mul-le_self n p.period in
      let e1 : (q + 1) * p.period ≡ q * p.period + p.period = omega arith in
      let e2 : (q + 1) * p.count ≡ q * p.count + p.count = omega arith in
      (omega arith, omega arith, omega arith)

-- ---- the points of a period
coded_small : (t : Bool) (l : ℕ) → l < 4 → cond t (l / 2) (l % 2) < 2
coded_small true l h = omega arith
coded_small false l h = omega arith

-- the pairs name steps of the period only
abbrev pub Within : ℕ → ℕ → List ℕ → List ℕ → Type 0
Within period count p1 p0 = (i : ℕ) → i < count → (get_or p1 i 0 / 2 < period) × (get_or p0 i 0 / 2 < period)

pub pattern_within : (c : Combination) (p : Pattern) (r : PatternOf (puncture_of c) p) → Within p.period p.count p.p1 p.p0
pattern_within c p r i h = (rw (r.first i h) (r.within (2 * i)), rw (r.second i h) (r.within (2 * i + 1)))

-- the digits that the pairs' bits stand at are outputs of the period
abbrev pub Outputs : ℕ → ℕ → List ℕ → Type 0
Outputs period count s = (i : ℕ) → i < count → IsOutput period (get_or s i 0)

pub outputs_of : (period count : ℕ) (p s : List ℕ) → period ≤ 8 → count ≤ 4 → Shifted period p s → ((i : ℕ) → i < count → get_or p i 0 / 2 < period) → Outputs period count s
outputs_of period count p s hp hc w h i l = rw (w.each i (omega arith)) (shift_output period (get_or p i 0) hp (h i l))

pub at_most : (period count : ℕ) (s : List ℕ) → Outputs period count s → AtMost count 31 s
at_most period count s w i h = omega (arith, (w i h).1)

module _ (at : ℕ → ℕ) (period count : ℕ) (s1 s0 : List ℕ) where
  shifted_at : (q i : ℕ) → i < count
      → shifted_label at period count s1 s0 (q * count + i) ≡ 2 * output_bit at period (q * period) (get_or s1 i 0) + output_bit at period (q * period) (get_or s0 i 0)
  unfolding shifted_label
  shifted_at q i h = rw (quotient count q i (q * count + i) h refl, remainder count q i (q * count + i) h refl)

  pub pair_label_lem : (word q i : ℕ) → ((x : ℕ) → IsOutput period x → word_bit word x ≡ output_bit at period (q * period) x) → Outputs period count s1 → Outputs period count s0 → i < count
      → pair_label word s1 s0 i ≡ shifted_label at period count s1 s0 (q * count + i)
  pair_label_lem word q i h w1 w0 l = rw (shifted_at q i l, h (get_or s1 i 0) (w1 i l), h (get_or s0 i 0) (w0 i l))

-- the outputs of a period among those of the run
output_shift : (f at : ℕ → ℕ) (n base x : ℕ) → IsOutput n x → ((i : ℕ) → i < n → f i ≡ at (base + i)) → output_bit f n 0 x ≡ output_bit at n base x
unfolding output_bit
output_shift f at n base x h e = by (ltb x 16) refl
  where
    by : (t : Bool) → ltb x 16 ≡ t → cond t (f (0 + (n - 1 - x)) % 2) (f (0 + (n - 1 - (x - 16))) / 2) ≡ cond t (at (base + (n - 1 - x)) % 2) (at (base + (n - 1 - (x - 16))) / 2)
    by true d =
        let l = ltb-true x 16 d in
        rw (zero-add (n - 1 - x), e (n - 1 - x) (omega arith))
    by false d =
        let l = ltb-false x 16 d in
        rw (zero-add (n - 1 - (x - 16)), e (n - 1 - (x - 16)) (omega arith))

-- ---- a period more
module _ (load : List ℕ) (bit n s period count : ℕ) (s1 s0 : List ℕ) where
  abbrev us : List ℕ
  us = plain_inputs load bit n

  -- point k by a table of points
  abbrev pub tabled : List Float → ℕ → Float
  tabled xs k = get_or xs (shifted_label (label_at s (plain_inputs load bit n)) period count s1 s0 k) nan

  follow : (done : ℕ) → done + period ≤ n → Follow us done (plain_inputs load (bit + done) period) period
  follow done h i l =
      get_d_upto (λ k. load_bit load (bit + k)) 0 n (done + i) (omega arith)
      ∙ ap (λ (x : ℕ). load_bit load x) (sym (add_assoc bit done i))
      ∙ sym (get_d_upto (λ k. load_bit load (bit + done + k)) 0 period i l)

  pub going_period : (xs ys : List Float) {re₀ im₀ re im : List Float} {state done j : ℕ} → Going us s (tabled xs) (tabled ys) re₀ im₀ re im (backward state) done j
      → (q : ℕ) → done ≡ q * period → j ≡ q * count → q * period + period ≤ n → q * count + count ≤ length re₀ → q * count + count ≤ length im₀ → Outputs period count s1 → Outputs period count s0
      → (e : Period) → PeriodEncoded load (bit + done) period state e
      → {re' im' : List Float}
      → re' ≡ take j re ++ laid (upto (λ i. get_or xs (pair_label e.word s1 s0 i) nan) count) (drop j re)
      → im' ≡ take j im ++ laid (upto (λ i. get_or ys (pair_label e.word s1 s0 i) nan) count) (drop j im)
      → Going us s (tabled xs) (tabled ys) re₀ im₀ re' im' (backward e.state) (done + period) (j + count)
  going_period xs ys {re₀} {im₀} {re} {im} {state} {done} {j} r q ed ej hn hr hi w1 w0 e t {re'} {im'} er ei =
      let at = label_at s us in
      let vs = plain_inputs load (bit + done) period in
      let f : Follow us done vs period = follow done (omega arith) in
      let bits : (x : ℕ) → IsOutput period x → word_bit e.word x ≡ output_bit at period (q * period) x =
      λ x l. t.bits_are x l ∙ output_shift (label_at (backward state) vs) at period done x l (λ i h. label_more r vs period f i h) ∙ ap (λ (y : ℕ). output_bit at period y x) ed in
      let label : (i : ℕ) → i < count → pair_label e.word s1 s0 i ≡ shifted_label at period count s1 s0 (j + i) =
      λ i l. pair_label_lem at period count s1 s0 e.word q i bits w1 w0 l ∙ ap (λ (x : ℕ). shifted_label at period count s1 s0 (x + i)) (sym ej) in
      going_part r vs period f (backward e.state) (backward_small e.state) t.state_is (λ i. get_or xs (pair_label e.word s1 s0 i) nan) (λ i. get_or ys (pair_label e.word s1 s0 i) nan) count re' im' (omega arith) (omega arith) er ei
      (λ i l. ap (λ (z : ℕ). get_or xs z nan) (label i l)) (λ i l. ap (λ (z : ℕ). get_or ys z nan) (label i l))

-- a turn more of a loop that counts
pub fewer : {i n : ℕ} → i < n → n - (i + 1) < n - i
fewer h = omega arith

-- the bounds that period q asks
pub record PeriodBounds (bit period count : ℕ) (re im : List Float) (done j q : ℕ) : Type 0 where
  pub bit_small : bit + done < 2 ^ 64
  pub under : bit + done + period < 2 ^ 32
  pub scaled_small : j * 8 < 2 ^ 64
  pub re_start : j ≤ length re
  pub im_start : j ≤ length im
  pub re_room : count ≤ length (take (length re - j) (drop j re))
  pub im_room : count ≤ length (take (length im - j) (drop j im))
  pub done_small : done + period < 2 ^ 64
  pub points_small : j + count < 2 ^ 64
  pub turn_small : q + 1 < 2 ^ 64

-- the first q periods are encoded, and there is room for all
pub record Encoding (load : List ℕ) (bit n s : ℕ) (re₀ im₀ : List Float) (period count : ℕ) (s1 s0 : List ℕ) (xs ys : List Float) (periods : ℕ) (re im : List Float) (state done j q : ℕ) : Type 0 where
  pub few : count ≤ 4
  pub most : periods ≤ n
  pub under : bit + n < 2 ^ 32
  pub turns : q ≤ periods
  pub done_is : done ≡ q * period
  pub points_are : j ≡ q * count
  pub room : Room periods period count n (length re₀) (length im₀)
  pub small : state < 64
  pub going : Going (plain_inputs load bit n) s (tabled load bit n s period count s1 s0 xs) (tabled load bit n s period count s1 s0 ys) re₀ im₀ re im (backward state) done j

module _ {load : List ℕ} {bit n s : ℕ} {re₀ im₀ : List Float} {period count : ℕ} {s1 s0 : List ℕ} {xs ys : List Float} {periods : ℕ} where
  pub encoding_first : {x : ℕ} → count ≤ 4 → periods ≤ n → bit + n < 2 ^ 32 → Room periods period count n (length re₀) (length im₀) → s < 64 → x ≡ backward s → x < 64
      → Encoding load bit n s re₀ im₀ period count s1 s0 xs ys periods re₀ im₀ x 0 0 0
  encoding_first {x} few most under room small ex hx =
      let e : backward x ≡ s = ap (λ (z : ℕ). backward z) ex ∙ backward_twice s small in
      record {
        few = few;
        most = most;
        under = under;
        turns = omega arith;
        done_is = sym (zero-mul period);
        points_are = sym (zero-mul count);
        room = room;
        small = hx;
        going = rw e (going_start _ s _ _ re₀ im₀ small);
      }

  pub encoding_bounds : {re im : List Float} {state done j q : ℕ} → Encoding load bit n s re₀ im₀ period count s1 s0 xs ys periods re im state done j q → q < periods → PeriodBounds bit period count re im done j q
  encoding_bounds {re} {im} {j = j} {q = q} w h =
      let few = w.few in
      let most = w.most in
      let under = w.under in
      let ed = w.done_is in
      let ej = w.points_are in
      let r = w.room q h in
      let k : q * count ≤ q * 4 = mul-le-mul_left q few in
      let er = w.going.points.re_length in
      let ei = w.going.points.im_length in
      record {
        bit_small = omega arith;
        under = omega arith;
        scaled_small = omega arith;
        re_start = omega arith;
        im_start = omega arith;
        re_room = simp (length-take, length-drop) (omega arith);
        im_room = simp (length-take, length-drop) (omega arith);
        done_small = omega arith;
        points_small = omega arith;
        turn_small = omega arith;
      }

  pub encoding_next : {re im re' im' : List Float} {state done j q : ℕ} → Encoding load bit n s re₀ im₀ period count s1 s0 xs ys periods re im state done j q → q < periods → Outputs period count s1 → Outputs period count s0
      → (e : Period) → PeriodEncoded load (bit + done) period state e → e.state < 64
      → re' ≡ laid (upto (λ i. get_or xs (pair_label e.word s1 s0 i) nan) count) (take (length re - j) (drop j re))
      → im' ≡ laid (upto (λ i. get_or ys (pair_label e.word s1 s0 i) nan) count) (take (length im - j) (drop j im))
      → Encoding load bit n s re₀ im₀ period count s1 s0 xs ys periods (put_mid j (length re - j) re re') (put_mid j (length im - j) im im') e.state (done + period) (j + count) (q + 1)
  encoding_next {re} {im} {j = j} {q = q} w h o1 o0 e t small er ei =
      let r = w.room q h in
      let f = encoding_bounds w h in
      record {
        few = w.few;
        most = w.most;
        under = w.under;
        turns = omega (arith, h);
        done_is = rw w.done_is (sym (add-mul q 1 period ∙ ap (λ (x : ℕ). q * period + x) (one-mul period)));
        points_are = rw w.points_are (sym (add-mul q 1 count ∙ ap (λ (x : ℕ). q * count + x) (one-mul count)));
        room = w.room;
        small = small;
        going = going_period load bit n s period count s1 s0 xs ys w.going q w.done_is w.points_are r.0 r.1 r.2 o1 o0 e t
            (tail_back j re (upto (λ i. get_or xs (pair_label e.word s1 s0 i) nan) count) f.re_start er) (tail_back j im (upto (λ i. get_or ys (pair_label e.word s1 s0 i) nan) count) f.im_start ei);
      }

  pub encoding_left : {re im : List Float} {state done j q : ℕ} → Encoding load bit n s re₀ im₀ period count s1 s0 xs ys periods re im state done j q → periods ≤ q → q ≡ periods
  encoding_left w h = let t = w.turns in omega arith

-- ---- the points of the run
module _ (c : Combination) (p : Pattern) (r : PatternOf (puncture_of c) p) (at : ℕ → ℕ) (bit j : ℕ) where
  split : j ≡ j / p.count * p.count + j % p.count
  split = sym (div-add-mod' j p.count)

  within_count : j % p.count < p.count
  within_count = mod-lt j r.pairs_many

  sent_first : sent_bit at (piece c bit) (2 * j) ≡ pattern_bit at (j / p.count * p.period) (get_or p.p1 (j % p.count) 0)
  sent_first =
      let i = j % p.count in
      let h : 2 * i < 2 * p.count = omega (arith, within_count) in
      let e : 2 * j ≡ j / p.count * (2 * p.count) + 2 * i = omega (arith, split) in
      rw (
        r.count_is,
        quotient (2 * p.count) (j / p.count) (2 * i) (2 * j) h e,
        remainder (2 * p.count) (j / p.count) (2 * i) (2 * j) h e,
        ← r.first i within_count,
        ← r.period_is,
        zero-add (j / p.count * p.period + get_or p.p1 (j % p.count) 0 / 2),
      )

  sent_second : sent_bit at (piece c bit) (2 * j + 1) ≡ pattern_bit at (j / p.count * p.period) (get_or p.p0 (j % p.count) 0)
  sent_second =
      let i = j % p.count in
      let h : 2 * i + 1 < 2 * p.count = omega (arith, within_count) in
      let e : 2 * j + 1 ≡ j / p.count * (2 * p.count) + (2 * i + 1) = omega (arith, split) in
      rw (
        r.count_is,
        quotient (2 * p.count) (j / p.count) (2 * i + 1) (2 * j + 1) h e,
        remainder (2 * p.count) (j / p.count) (2 * i + 1) (2 * j + 1) h e,
        ← r.second i within_count,
        ← r.period_is,
        zero-add (j / p.count * p.period + get_or p.p0 (j % p.count) 0 / 2),
      )

-- the label of point j, and the point that it names
module _ (c : Combination) (p : Pattern) (r : PatternOf (puncture_of c) p) (m : Mapping) (load : List ℕ) (bit n s j : ℕ) (e : modulation_of c ≡ Qpsk) where
  abbrev at_step_lem : ℕ → ℕ
  at_step_lem = label_at s (plain_inputs load bit n)

  bit_small : (a : ℕ) → pattern_bit at_step_lem (j / p.count * p.period) a < 2
  bit_small a = coded_small (eqb (a % 2) 0) (at_step_lem (j / p.count * p.period + a / 2)) (label_small s (plain_inputs load bit n) (j / p.count * p.period + a / 2))

  pub run_label_small : pattern_label at_step_lem p.period p.count p.p1 p.p0 j < 4
  unfolding pattern_label
  run_label_small = omega (arith, bit_small (get_or p.p1 (j % p.count) 0), bit_small (get_or p.p0 (j % p.count) 0))

  two_bits : (a b : ℕ) → b < 2 → qpsk_label m (2 * a + b) ≡ mapped m (qpsk_of m.qpsk_p1_on_q a b)
  two_bits a b h =
      let x : (2 * a + b) / 2 ≡ a = omega arith in
      let y : (2 * a + b) % 2 ≡ b = omega arith in
      rw (x, y)

  pub run_point : qpsk_label m (pattern_label at_step_lem p.period p.count p.p1 p.p0 j) ≡ piece_point c m load bit n s j
  unfolding pattern_label piece_point
  run_point =
      let b1 = pattern_bit at_step_lem (j / p.count * p.period) (get_or p.p1 (j % p.count) 0) in
      let b0 = pattern_bit at_step_lem (j / p.count * p.period) (get_or p.p0 (j % p.count) 0) in
      two_bits b1 b0 (bit_small (get_or p.p0 (j % p.count) 0))
      ∙ sym (
      ap (λ (us : List ℕ). mapped m (point_in m load (label_at s us) (piece c bit) j)) (plain c load bit n e)
      ∙ ap (λ (z : Cplx). mapped m z) (in_qpsk c m load at_step_lem bit j e ∙ ap (λ (x : ℕ). qpsk_of m.qpsk_p1_on_q x (sent_bit at_step_lem (piece c bit) (2 * j + 1))) (sent_first c p r at_step_lem bit j)
      ∙ ap (λ (x : ℕ). qpsk_of m.qpsk_p1_on_q b1 x) (sent_second c p r at_step_lem bit j))
      )

-- ---- the whole run
module _ (c : Combination) (p : Pattern) (r : PatternOf (puncture_of c) p) (s1 s0 : List ℕ) (x1 : Shifted p.period p.p1 s1) (x0 : Shifted p.period p.p0 s0) (at : ℕ → ℕ) where
  bit_is : (i base : ℕ) → i < p.count → (a x : ℕ) → a / 2 < p.period → x ≡ shift_of p.period a → output_bit at p.period base x ≡ pattern_bit at base a
  bit_is i base l a x h e = rw e (shift_bit p.period a r.short h at base)

  pub shifted_pattern : (j : ℕ) → shifted_label at p.period p.count s1 s0 j ≡ pattern_label at p.period p.count p.p1 p.p0 j
  unfolding shifted_label pattern_label
  shifted_pattern j =
      let i = j % p.count in
      let base = j / p.count * p.period in
      let l : i < p.count = mod-lt j r.pairs_many in
      let w = pattern_within c p r i l in
      rw (
        bit_is i base l (get_or p.p1 i 0) (get_or s1 i 0) w.0 (x1.each i (omega (arith, r.few))),
        bit_is i base l (get_or p.p0 i 0) (get_or s0 i 0) w.1 (x0.each i (omega (arith, r.few))),
      )

module _ (c : Combination) (p : Pattern) (r : PatternOf (puncture_of c) p) (s1 s0 : List ℕ) (x1 : Shifted p.period p.p1 s1) (x0 : Shifted p.period p.p0 s0) (m : Mapping) (t : PointTable 8) (w : TableOf 4 (qpsk_label m) t) (load : List ℕ) (bit n s : ℕ) (e : modulation_of c ≡ Qpsk) where
  abbrev in_table : List Float → ℕ → Float
  in_table = tabled load bit n s p.period p.count s1 s0

  pub qpsk_end : {re₀ im₀ re im : List Float} {state done j : ℕ}
      → Going (plain_inputs load bit n) s (tabled load bit n s p.period p.count s1 s0 t.re) (tabled load bit n s p.period p.count s1 s0 t.im) re₀ im₀ re im state done j
      → (q : ℕ) → q ≡ n / p.period → done ≡ q * p.period → j ≡ q * p.count → n ≡ n / steps_per_period c * steps_per_period c → PieceEncoded c m load bit n s state re₀ re im₀ im
  qpsk_end {re₀} {im₀} {re} {im} {state} {done} {j} g q eq ed ej en =
      let d : done ≡ n = ed ∙ ap (λ (x : ℕ). x * p.period) eq ∙ rw (← r.period_is) at (sym en) in
      let k : j ≡ piece_symbols c n = ej ∙ ap (λ (x : ℕ). x * p.count) eq ∙ sym (symbols_qpsk c n e ∙ rw (half_order c p r, ← r.period_is)) in
      let l = shifted_label (label_at s (plain_inputs load bit n)) p.period p.count s1 s0 in
      let same : (i : ℕ) → l i ≡ pattern_label (label_at s (plain_inputs load bit n)) p.period p.count p.p1 p.p0 i = shifted_pattern c p r s1 s0 x1 x0 (label_at s (plain_inputs load bit n)) in
      let small : (i : ℕ) → l i < 4 = λ i. rw (same i) (run_label_small c p r m load bit n s i e) in
      let point : (i : ℕ) → qpsk_label m (l i) ≡ piece_point c m load bit n s i = λ i. rw (same i) (run_point c p r m load bit n s i e) in
      let re-front : upto (in_table t.re) j ≡ upto (λ i. (piece_point c m load bit n s i).re) (piece_symbols c n) =
      rw k (upto_cong (in_table t.re) (λ i. (piece_point c m load bit n s i).re) (piece_symbols c n) (λ i h. w.re_at (l i) (small i) ∙ ap (λ (z : Cplx). z.re) (point i))) in
      let im-front : upto (in_table t.im) j ≡ upto (λ i. (piece_point c m load bit n s i).im) (piece_symbols c n) =
      rw k (upto_cong (in_table t.im) (λ i. (piece_point c m load bit n s i).im) (piece_symbols c n) (λ i h. w.im_at (l i) (small i) ∙ ap (λ (z : Cplx). z.im) (point i))) in
      record {
        small = g.small;
        state_is = g.state_is ∙ ap (λ (x : ℕ). state_at 32 s (plain_inputs load bit n) x) d ∙ ap (λ (us : List ℕ). state_at 32 s us n) (sym (plain c load bit n e));
        re_is = g.points.re_is ∙ ap (λ (x : List Float). laid x re₀) re-front;
        im_is = g.points.im_is ∙ ap (λ (x : List Float). laid x im₀) im-front;
      }
