-- A step of a run: the coded bit that is read, where it lies, and the bits of the load by modulation.
use mathlib.Core.Path.{◌≡◌, refl, ◌∙◌}
use mathlib.Core.Bool.{Bool, true, false, cond}
use Prim.Native.Nat.{ℕ, ◌+◌, ◌-◌, ◌*◌, ◌/◌, ◌%◌, ◌<◌, ◌^◌}
use native.Mathlib.Nat.{mod-lt}
use native.Mathlib.Omega.{arith}
use borrow.Author.Tests.{eq-eqb, ne_eqb}
use lib.Dec.{eqb, ltb, lit<}
use lib.ListN.{get_or, length}
use Rattle.trellis.specs.Code.{isdb, label, output, moved}
use Rattle.isdbs_combination.specs.declared.Combination.{Combination}
use Rattle.isdbs_combination.specs.declared.Combination.TheVariants.{Bpsk1_2, Qpsk1_2, Qpsk2_3, Qpsk3_4, Qpsk5_6, Qpsk7_8, Tc8psk2_3}
use Rattle.isdbs_combination.specs.declared.Modulation.{Modulation}
use Rattle.isdbs_combination.specs.declared.Modulation.TheVariants.{Bpsk, Qpsk, Tc8psk}
use Rattle.isdbs_combination.specs.Combinations.{modulation_of}
use Rattle.isdbs_points.specs.declared.Cplx.{Cplx}
use Rattle.isdbs_points.specs.declared.Mapping.{Mapping}
use Rattle.isdbs_points.specs.Layout.{Segment, sent_order, order_of, steps_per_period}
use Rattle.trellis.specs.Lists.{first_place}
use Rattle.isdbs_points.specs.Frame.{coded_bit}
use Rattle.isdbs_points.specs.OrderLaws.{number, step_kept}
use Rattle.isdbs_metrics.specs.declared.PeriodLayout.{PeriodLayout}
use Rattle.isdbs_metrics.specs.Steps.{LayoutOf}
use Rattle.isdbs_metrics.specs.StepLaws.{place_small, period_small, base_small, tc8psk_reach}
use Rattle.wanted_read.specs.ReadOff.{psk8_label, which, bit_as, bit_by, input_from}
use Rattle.wanted_read.specs.Shown.{label_small}
use Rattle.wanted_read.specs.Inputs.{which_small, which_sent}
use Rattle.wanted_read.specs.Pieces.{run_at, step_by, step_of, SentIn, InFrame, bit_from, state_from}
use Rattle.trellis.specs.Isdb

-- the place of a sent bit lies in the frame where its step's points do
in_frame : (c : Combination) (start k i : ℕ) → InFrame c start k → i < length (order_of c) → SentIn (modulation_of c) start (k / steps_per_period c * length (order_of c) + i) k
unfolding sent_order
in_frame Bpsk1_2 start k i h l = let a = h.0 in let b = h.1 in omega arith
in_frame Qpsk1_2 start k i h l = let a = h.0 in let b = h.1 in omega arith
in_frame Qpsk2_3 start k i h l = let a = h.0 in let b = h.1 in omega arith
in_frame Qpsk3_4 start k i h l = let a = h.0 in let b = h.1 in omega arith
in_frame Qpsk5_6 start k i h l = let a = h.0 in let b = h.1 in omega arith
in_frame Qpsk7_8 start k i h l = let a = h.0 in let b = h.1 in omega arith
in_frame Tc8psk2_3 start k i h l = let a = h.0 in let b = h.1 in omega arith

module _ (c : Combination) (start k : ℕ) where
  abbrev b : ℕ
  b = which (run_at c start) k

  pub place_fits : first_place (2 * (k % steps_per_period c) + b) (order_of c) < length (order_of c)
  place_fits = which_sent (run_at c start) k (step_kept c (k % steps_per_period c) (place_small c k))

  pub sent_in : InFrame c start k → SentIn (modulation_of c) start (number (run_at c start) k b) k
  sent_in h = in_frame c start k (first_place (2 * (k % steps_per_period c) + b) (order_of c)) h place_fits

-- what the code's table says of the bit that is read, and of its number among those sent
module _ (r : PeriodLayout) (h : LayoutOf r) (start k : ℕ) where
  pub which_is : (b : ℕ) → b ≡ cond (ltb (get_or r.places (2 * (k % r.period)) 0) r.count) 0 1 → b ≡ which (run_at r.combination start) k
  which_is b e =
      let s = place_small r.combination k in
      let z : 2 * (k % steps_per_period r.combination) + 0 ≡ 2 * (k % steps_per_period r.combination) = omega arith in
      e ∙ rw (h.period, h.count, h.places (2 * (k % steps_per_period r.combination)) (omega arith), z) refl

  pub number_is : (b : ℕ) → b < 2 → k / r.period * r.count + get_or r.places (2 * (k % r.period) + b) 0 ≡ number (run_at r.combination start) k b
  number_is b l =
      let s = place_small r.combination k in
      rw (h.period, h.count, h.places (2 * (k % steps_per_period r.combination) + b) (omega arith)) refl

  -- its indices and numbers are small
  pub some_period : 0 < r.period
  some_period = let s = place_small r.combination k in rw h.period (omega arith)

  pub index_small : (b : ℕ) → b < 2 → 2 * (k % r.period) + b < 14
  index_small b l = let s = period_small r.combination k in rw h.period (omega arith)

  pub pair_small : 2 * (k % r.period) < 14
  pair_small = let s = period_small r.combination k in rw h.period (omega arith)

  pub base_fits : k < 2 ^ 30 → k / r.period * r.count < 2 ^ 64
  base_fits l = let s = base_small r.combination k in rw (h.period, h.count) (omega arith)

  pub number_fits : (b : ℕ) → b ≡ which (run_at r.combination start) k → k < 2 ^ 30 → k / r.period * r.count + get_or r.places (2 * (k % r.period) + b) 0 < 2 ^ 64
  number_fits b e l =
      let s = base_small r.combination k in
      let f = place_fits r.combination start k in
      rw (number_is b (rw e (which_small (run_at r.combination start) k)), e) (omega arith)

  -- the bit that is read lies in the frame
  pub reads_in : (b : ℕ) → b ≡ which (run_at r.combination start) k → InFrame r.combination start k
      → SentIn r.modulation start (k / r.period * r.count + get_or r.places (2 * (k % r.period) + b) 0) k
  reads_in b e i = rw (number_is b (rw e (which_small (run_at r.combination start) k)), e, h.modulation) (sent_in r.combination start k i)

  -- and gives the input
  pub input_is : (m : Mapping) (z : ℕ → Cplx) (s b v w : ℕ) → b ≡ which (run_at r.combination start) k
      → v ≡ bit_as m z r.modulation start (k / r.period * r.count + get_or r.places (2 * (k % r.period) + b) 0) k b
      → w ≡ coded_bit b (Isdb.labels 0 s) → (v + w) % 2 ≡ input_from m z s (run_at r.combination start) k
  input_is m z s b v w e ev ew =
      rw (ev, ew, number_is b (rw e (which_small (run_at r.combination start) k)), e, h.modulation)

pub under_fits : (x : ℕ) → x < 14 → x < 2 ^ 64
under_fits x h = omega arith

pub eight_fits : (x : ℕ) → x < 14 → x * 8 < 2 ^ 64
eight_fits x h = omega arith

-- the label of the input 0
pub label_is : {x y : ℕ} (s : ℕ) → x ≡ output isdb 0o171 0 s → y ≡ output isdb 0o133 0 s → 2 * x + y ≡ Isdb.labels 0 s
unfolding label
label_is s p q = rw (p, q)

-- ---- bits by modulation
pub step_plain : (c : Combination) (md : Modulation) (i : ℕ) → modulation_of c ≡ md → step_of c i ≡ step_by md i
step_plain c md i e = rw e

pub tc_in : (c : Combination) (start i : ℕ) → modulation_of c ≡ Tc8psk → InFrame c start (step_of c i) → start + i / 2 < 38976
tc_in c start i e h =
    let l = tc8psk_reach c (step_of c i) (38976 - start) e h.1 in
    let q = step_plain c Tc8psk i e in
    let a = h.0 in
    omega arith

module _ (m : Mapping) (z : ℕ → Cplx) (s : ℕ) (g : Segment) (i : ℕ) where
  pub bit_small : (md : Modulation) → bit_from m z md s g i < 2
  unfolding bit_from
  bit_small Bpsk = mod-lt (bit_by m z (modulation_of g.combination) g i + coded_bit (which g i) (Isdb.labels 0 s)) (lit< tt)
  bit_small Qpsk = mod-lt (bit_by m z (modulation_of g.combination) g i + coded_bit (which g i) (Isdb.labels 0 s)) (lit< tt)
  bit_small Tc8psk = go (eqb (i % 2) 0)
    where
      go : (t : Bool) → cond t (psk8_label (z (g.symbol + i / 2)) / 4) (input_from m z s g (i / 2)) < 2
      go true = let l = label_small (z (g.symbol + i / 2)) in omega arith
      go false = mod-lt (bit_by m z (modulation_of g.combination) g (i / 2) + coded_bit (which g (i / 2)) (Isdb.labels 0 s)) (lit< tt)

  pub even_bit : i % 2 ≡ 0 → psk8_label (z (g.symbol + i / 2)) / 4 ≡ bit_from m z Tc8psk s g i
  unfolding bit_from
  even_bit e = rw (eq-eqb (i % 2) 0 e)

  pub even_state : i % 2 ≡ 0 → s ≡ state_from m z Tc8psk s g i
  unfolding state_from
  even_state e = rw (eq-eqb (i % 2) 0 e)

  pub odd_bit : (i % 2 ≡ 0 → ⊥) → input_from m z s g (i / 2) ≡ bit_from m z Tc8psk s g i
  unfolding bit_from
  odd_bit e = rw (ne_eqb (i % 2) 0 e)

  pub odd_state : (i % 2 ≡ 0 → ⊥) → moved 32 (input_from m z s g (i / 2)) s ≡ state_from m z Tc8psk s g i
  unfolding state_from
  odd_state e = rw (ne_eqb (i % 2) 0 e)
