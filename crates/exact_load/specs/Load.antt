-- The frame of a load depends on the bits of its first 203 bytes for each valid slot, and on nothing else of it.
use Rattle.std.specs.Prelude.{◌≡◌, Bool, not, ℕ, ◌+◌, ◌-◌, ◌*◌, ◌/◌, ◌<◌, ◌≤◌, T, ltb, get_or, take}
use Rattle.std.proofs.Math.Path.{refl, ap}
use Rattle.std.proofs.Common.{◌∙◌, arith, ltb→lt, nltb→le, get_or-take}
use Rattle.std.proofs.Math.Bool.{true, false, cond}
use mathlib.Core.List.{List, [], ◌∷◌}
use Rattle.trellis.specs.Code.{state_at}
use Rattle.isdbs_combination.specs.declared.Combination.{Combination}
use Rattle.isdbs_combination.specs.declared.Combination.TheVariants.{Bpsk1_2, Qpsk1_2, Qpsk2_3, Qpsk3_4, Qpsk5_6, Qpsk7_8, Tc8psk2_3}
use Rattle.isdbs_combination.specs.declared.Modulation.{Modulation}
use Rattle.isdbs_combination.specs.declared.Modulation.TheVariants.{Bpsk, Qpsk, Tc8psk}
use Rattle.isdbs_tables.specs.declared.Table.{Table}
use Rattle.isdbs_combination.specs.Combinations.{modulation_of, unit_of, slot_steps, slot_bits, slot_symbols}
use Rattle.isdbs_tables.specs.Tables.{TableAccepted}
use Rattle.isdbs_plan.specs.RunsOf.{runs_of, valid_total, load_bytes, frame_steps}
use Rattle.isdbs_points.specs.declared.Cplx.{Cplx}
use Rattle.isdbs_points.specs.declared.Mapping.{Mapping}
use Rattle.isdbs_points.specs.Points.{point, unused, conjugated}
use Rattle.isdbs_points.specs.Layout.{Segment, segments, among, at_symbol, at_step, load_bit, In, here, there}
use Rattle.isdbs_points.specs.Frame.{coded, input_in, inputs, label_at, point_by, point_in, point_at, frame_re, frame_im, end_state}
use Rattle.trellis.specs.LaidLaws.{upto_cong}
use Rattle.isdbs_points.specs.PlaceLaws.{Fill, fill_member}
use Rattle.isdbs_points.specs.SizeLaws.{symbol_sum, fill_steps, fill_bits, fill_symbols, table_whole}
use Rattle.isdbs_frame.specs.Frame.{main_symbols}

-- ---- two functions that say the same of each place of each segment
module _ {A : Type 0} (first size : Segment → ℕ) (none : A) (f f' : Segment → ℕ → A) where
  pub among_same : (gs : List Segment) (a b : ℕ) → Fill first size gs a b → ((g : Segment) → In g gs → (i : ℕ) → i < size g → f g i ≡ f' g i)
      → (k : ℕ) → a ≤ k → among first size none f gs k ≡ among first size none f' gs k
  unfolding Fill among
  among_same [] a b c h k l = refl
  among_same (g ∷ gs) a b c h k l =
      go (ltb k (first g + size g)) (ltb→lt k (first g + size g)) (nltb→le k (first g + size g)) (λ n. among_same gs (a + size g) b c.1 (λ g' m. h g' (there m)) k n)
    where
      go : (t : Bool) → (T t → k < first g + size g) → (T (not t) → first g + size g ≤ k) → (a + size g ≤ k → among first size none f gs k ≡ among first size none f' gs k)
          → cond t (f g (k - first g)) (among first size none f gs k) ≡ cond t (f' g (k - first g)) (among first size none f' gs k)
      go true y n r = let s = y tt in let e = c.0 in h g here (k - first g) (omega arith)
      go false y n r = let s = n tt in let e = c.0 in r (omega arith)

-- ---- the bits of the load that a segment takes are its own
coded_few : (c : Combination) (u k : ℕ) → k < slot_steps c * (u * (unit_of c).valid) → coded (modulation_of c) k < slot_bits * (u * (unit_of c).valid)
coded_few Bpsk1_2 u k h = omega arith
coded_few Qpsk1_2 u k h = omega arith
coded_few Qpsk2_3 u k h = omega arith
coded_few Qpsk3_4 u k h = omega arith
coded_few Qpsk5_6 u k h = omega arith
coded_few Qpsk7_8 u k h = omega arith
coded_few Tc8psk2_3 u k h = omega arith

uncoded_few : (c : Combination) (u j : ℕ) → modulation_of c ≡ Tc8psk → j < u * ((unit_of c).slots * slot_symbols) → 2 * j < slot_bits * (u * (unit_of c).valid)
uncoded_few Bpsk1_2 u j e h = let z : ◌≡◌ {A = ℕ} 0 1 = cc in omega arith
uncoded_few Qpsk1_2 u j e h = let z : ◌≡◌ {A = ℕ} 0 1 = cc in omega arith
uncoded_few Qpsk2_3 u j e h = let z : ◌≡◌ {A = ℕ} 0 1 = cc in omega arith
uncoded_few Qpsk3_4 u j e h = let z : ◌≡◌ {A = ℕ} 0 1 = cc in omega arith
uncoded_few Qpsk5_6 u j e h = let z : ◌≡◌ {A = ℕ} 0 1 = cc in omega arith
uncoded_few Qpsk7_8 u j e h = let z : ◌≡◌ {A = ℕ} 0 1 = cc in omega arith
uncoded_few Tc8psk2_3 u j e h = omega arith

-- the loads a and b have the same bits in the first 203 bytes for each valid slot; missing bits are 0
abbrev pub SameBits : Table → List ℕ → List ℕ → Type 0
SameBits t a b = (n : ℕ) → n < 8 * load_bytes t → load_bit a n ≡ load_bit b n

module _ (t : Table) (fit : TableAccepted t) (a b : List ℕ) (h : SameBits t a b) where
  bits_end : (g : Segment) → In g (segments t) → g.bit + g.bits ≤ 8 * load_bytes t
  bits_end g m = omega (arith, (fill_member (λ g. g.bit) (λ g. g.bits) g (segments t) 0 (0 + slot_bits * valid_total t) m (fill_bits (runs_of t) 0 0)).1)

  same_input : (g : Segment) → In g (segments t) → (k : ℕ) → k < g.steps → input_in a g k ≡ input_in b g k
  same_input g m k l =
      let w = table_whole t fit g m in
      let r = coded_few g.combination w.units k (rw w.steps_are at l) in
      h (g.bit + coded (modulation_of g.combination) k) (omega (arith, bits_end g m, w.bits_are, r))

  pub same_inputs : inputs t a ≡ inputs t b
  unfolding inputs
  same_inputs =
      upto_cong (at_step 0 (input_in a) t) (at_step 0 (input_in b) t) (frame_steps t)
      (λ k l. among_same (λ g. g.step) (λ g. g.steps) 0 (input_in a) (input_in b) (segments t) 0 (0 + frame_steps t) (fill_steps (runs_of t) 0 0) same_input k (omega arith))

  pub same_end : (s : ℕ) → end_state t a s ≡ end_state t b s
  same_end s = ap (λ (us : List ℕ). state_at 32 s us (frame_steps t)) same_inputs

  module _ (m : Mapping) (s : ℕ) where
    by_modulation : (md : Modulation) (at : ℕ → ℕ) (g : Segment) (j : ℕ) → (md ≡ Tc8psk → g.bit + 2 * j < 8 * load_bytes t) → point_by md m a at g j ≡ point_by md m b at g j
    unfolding point_by
    by_modulation Bpsk at g j l = refl
    by_modulation Qpsk at g j l = refl
    by_modulation Tc8psk at g j l = rw (h (g.bit + 2 * j) (l refl))

    same_point : (at : ℕ → ℕ) (g : Segment) → In g (segments t) → (j : ℕ) → j < g.symbols → point_in m a at g j ≡ point_in m b at g j
    same_point at g i j l =
        let w = table_whole t fit g i in
        by_modulation (modulation_of g.combination) at g j
        (λ e. omega (arith, bits_end g i, w.bits_are, uncoded_few g.combination w.units j e (rw w.symbols_are at l)))

    pub same_points : (k : ℕ) → point_at t m a s k ≡ point_at t m b s k
    unfolding point_at
    same_points k =
        let e : at_symbol unused (point_in m a (label_at s (inputs t a))) t k ≡ at_symbol unused (point_in m b (label_at s (inputs t b))) t k =
        among_same (λ g. g.symbol) (λ g. g.symbols) unused (point_in m a (label_at s (inputs t a))) (point_in m b (label_at s (inputs t a))) (segments t) 0 (0 + symbol_sum t.entries) (fill_symbols t.entries 0 0 0 0) (same_point (label_at s (inputs t a))) k (omega arith)
        ∙ ap (λ (us : List ℕ). at_symbol unused (point_in m b (label_at s us)) t k) same_inputs in
        ap (λ (p : Cplx). point p.re (conjugated m.conjugate p.im)) e

    pub same_re : frame_re t m a s ≡ frame_re t m b s
    same_re = upto_cong (λ k. (point_at t m a s k).re) (λ k. (point_at t m b s k).re) main_symbols (λ k l. ap (λ (p : Cplx). p.re) (same_points k))

    pub same_im : frame_im t m a s ≡ frame_im t m b s
    same_im = upto_cong (λ k. (point_at t m a s k).im) (λ k. (point_at t m b s k).im) main_symbols (λ k l. ap (λ (p : Cplx). p.im) (same_points k))

-- ---- loads whose first 203 bytes for each valid slot agree; surplus bytes are ignored
module _ (t : Table) where
  pub same_bytes : (a b : List ℕ) → ((i : ℕ) → i < load_bytes t → get_or a i 0 ≡ get_or b i 0) → SameBits t a b
  same_bytes a b h n l = rw (h (n / 8) (omega arith))

  pub surplus_ignored : (load : List ℕ) → SameBits t (take (load_bytes t) load) load
  surplus_ignored load = same_bytes (take (load_bytes t) load) load (λ i l. get_or-take (load_bytes t) load i 0 l)
