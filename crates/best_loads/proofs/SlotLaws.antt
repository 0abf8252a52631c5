-- Two loads differ in the bytes of a valid slot exactly where their inputs or uncoded bits differ in a step of the slot.
use Rattle.std.specs.Prelude.{◌≡◌, refl, Bool, true, false, List, ℕ, zero, suc, ◌+◌, ◌-◌, ◌*◌, ◌/◌, ◌%◌, ◌^◌, ◌≤◌, ◌<◌, eqb, get_or}
use Rattle.std.proofs.Common.{sym, ap, ◌∙◌, subst, arith, below_more, eqb-true}
use Rattle.std.proofs.lemmas.Bool.{eqb-false}
use Rattle.isdbs_combination.specs.declared.Modulation.{Modulation}
use Rattle.isdbs_combination.specs.declared.Modulation.TheVariants.{Bpsk, Qpsk, Tc8psk}
use Rattle.isdbs_combination.specs.Combinations.{modulation_of, slot_bits, step_bits}
use Rattle.isdbs_tables.specs.declared.Table.{Table}
use Rattle.isdbs_tables.specs.Tables.{TableAccepted}
use Rattle.isdbs_plan.specs.RunsOf.{load_bytes, valid_total}
use Rattle.isdbs_points.specs.Layout.{Segment, segments, In, load_bit, FullLoad}
use Rattle.isdbs_points.specs.Frame.{coded, inputs}
use Rattle.isdbs_points.specs.SizeLaws.{at_bit_lem, find_bit, find_step}
use Rattle.isdbs_points.specs.BitLaws.{load_byte}
use Rattle.isdbs_points.specs.InputLaws.{input_at}
use Rattle.isdbs_metrics.specs.DigitLaws.{byte_cong}
use Rattle.best_grid.specs.Contents.{Differ}
use Rattle.best_loads.specs.Fit.{DifferIn}
use Rattle.best_loads.specs.Marks.{mark_at}
use Rattle.best_loads.proofs.MarkLaws.{step_of, slot, in_slot, only_slot, mark_up, mark_last}
use Rattle.best_loads.specs.Held.{uncoded_by, uncoded_bits, held_by, held_in, held_bit}
use Rattle.best_loads.proofs.FitLaws.{beside_at}
use Rattle.best_loads.proofs.HeldLaws.{held_bit_lem, coded_in, beside_in}
use Rattle.isdbs_plan.specs.RunsOf.{runs_of}

-- ---- bytes that differ have a bit that does
record Apart (f g : ℕ → ℕ) (n : ℕ) : Type 0 where
  pub place : ℕ
  pub small : place < n
  pub unlike : f place ≡ g place → ⊥

apart : (f g : ℕ → ℕ) (n : ℕ) → (((i : ℕ) → i < n → f i ≡ g i) → ⊥) → Apart f g n
apart f g zero h = absurd (h (λ i l. absurd (omega arith)))
apart f g (suc n) h = go (eqb (f n) (g n)) refl (apart f g n)
  where
    wider : Apart f g n → Apart f g (suc n)
    wider a = record { place = a.place; small = let s = a.small in omega arith; unlike = a.unlike }

    go : (w : Bool) → eqb (f n) (g n) ≡ w → ((((i : ℕ) → i < n → f i ≡ g i) → ⊥) → Apart f g n) → Apart f g (suc n)
    go true e rec = wider (rec (λ all. h (λ i l. below_more (λ i. f i ≡ g i) n all (eqb-true (f n) (g n) e) i (omega arith))))
    go false e rec = record { place = n; small = omega arith; unlike = eqb-false (f n) (g n) e }

bit_apart : (a b : List ℕ) (j : ℕ) → get_or a j 0 < 256 → get_or b j 0 < 256 → (get_or a j 0 ≡ get_or b j 0 → ⊥) → Apart (λ i. load_bit a (8 * j + i)) (λ i. load_bit b (8 * j + i)) 8
bit_apart a b j ha hb h =
    apart (λ i. load_bit a (8 * j + i)) (λ i. load_bit b (8 * j + i)) 8
    (λ all. h (sym (load_byte a j ha) ∙ byte_cong (λ i. load_bit a (8 * j + i)) (λ i. load_bit b (8 * j + i)) all ∙ load_byte b j hb))

-- ---- a bit is held by its step alone
held_alike : (md : Modulation) (us zs vs ys : List ℕ) (g : Segment) (p : ℕ) → get_or us (g.step + p / step_bits md) 0 ≡ get_or vs (g.step + p / step_bits md) 0
    → get_or zs (g.step + p / step_bits md) 0 ≡ get_or ys (g.step + p / step_bits md) 0 → held_by md us zs g p ≡ held_by md vs ys g p
unfolding held_by
held_alike Bpsk us zs vs ys g p e f = let q : p / 1 ≡ p = omega arith in rw q at e
held_alike Qpsk us zs vs ys g p e f = let q : p / 1 ≡ p = omega arith in rw q at e
held_alike Tc8psk us zs vs ys g p e f = rw (e, f) refl

-- and its bits lie at its step
coded_step : (md : Modulation) (k : ℕ) → coded md k / step_bits md ≡ k
coded_step Bpsk k = omega arith
coded_step Qpsk k = omega arith
coded_step Tc8psk k = omega arith

module _ (t : Table) (accepted : TableAccepted t) (a b : List ℕ) where
  -- ---- from bytes to steps
  module _ (g : Segment) (m : In g (segments t)) (p : ℕ) (l : p < g.bits) (n : ℕ) (e : n ≡ g.bit + p) (h : n < 8 * load_bytes t) where
    held_of : (load : List ℕ) → held_in (inputs t load) (uncoded_bits t load) g p ≡ load_bit load n
    held_of load = sym (at_bit_lem t 0 (held_in (inputs t load) (uncoded_bits t load)) g m p l) ∙ ap (held_bit t (inputs t load) (uncoded_bits t load)) (sym e) ∙ held_bit_lem t accepted load n h

    bits_alike : (get_or (inputs t a) (step_of g p) 0 ≡ get_or (inputs t b) (step_of g p) 0) × (get_or (uncoded_bits t a) (step_of g p) 0 ≡ get_or (uncoded_bits t b) (step_of g p) 0) → load_bit a n ≡ load_bit b n
    bits_alike q =
        sym (held_of a) ∙ held_alike (modulation_of g.combination) (inputs t a) (uncoded_bits t a) (inputs t b) (uncoded_bits t b) g p q.0 q.1 ∙ held_of b

    step_differs : (k : ℕ) → slot_bits * k ≤ n → n < slot_bits * (k + 1) → (load_bit a n ≡ load_bit b n → ⊥)
        → Differ (inputs t a) (uncoded_bits t a) (inputs t b) (uncoded_bits t b) (mark_at t k) (mark_at t (k + 1))
    step_differs k from under unlike =
        let s : slot t g m p l ≡ k = omega arith in
        let i = in_slot t g m p l in
        record {
          at = step_of g p;
          from = subst (λ (x : ℕ). mark_at t x ≤ step_of g p) s i.0;
          under = subst (λ (x : ℕ). step_of g p < mark_at t (x + 1)) s i.1;
          unlike = λ q. unlike (bits_alike q);
        }

  -- full loads that differ in the bytes of slot k differ in its steps
  pub slot_steps_lem : FullLoad a (load_bytes t) → FullLoad b (load_bytes t) → (k : ℕ) → k < valid_total t → DifferIn k a b → Differ (inputs t a) (uncoded_bits t a) (inputs t b) (uncoded_bits t b) (mark_at t k) (mark_at t (k + 1))
  slot_steps_lem fa fb k h d =
      let j = d.byte in
      let f = d.from in
      let u = d.under in
      let J : j < load_bytes t = omega arith in
      let w = bit_apart a b j (fa.bytes j J) (fb.bytes j J) d.unlike in
      let i = w.small in
      let n = 8 * j + w.place in
      let N : n < 8 * load_bytes t = omega arith in
      let g = find_bit t n N in
      step_differs g.segment g.member g.place g.small n g.place_is N k (omega arith) (omega arith) w.unlike

  -- ---- from steps to bytes
  module _ (g : Segment) (m : In g (segments t)) (q : ℕ) (l : q < g.steps) (k : ℕ) (from : mark_at t k ≤ g.step + q) (under : g.step + q < mark_at t (k + 1)) where
    bit_differs : (p : ℕ) → p < g.bits → p / step_bits (modulation_of g.combination) ≡ q → (load_bit a (g.bit + p) ≡ load_bit b (g.bit + p) → ⊥) → DifferIn k a b
    bit_differs p h e unlike =
        let s : k ≡ slot t g m p h = only_slot t g m p h k (rw e from) (rw e under) in
        let n = g.bit + p in
        record {
          byte = n / 8;
          from = omega arith;
          under = omega arith;
          unlike = λ same. unlike (ap (λ (x : ℕ). x / 2 ^ (7 - n % 8) % 2) same);
        }

    input_differs : (get_or (inputs t a) (g.step + q) 0 ≡ get_or (inputs t b) (g.step + q) 0 → ⊥) → DifferIn k a b
    input_differs h =
        let md = modulation_of g.combination in
        bit_differs (coded md q) (coded_in t accepted g m q l) (coded_step md q) (λ e. h (input_at t a g m q l ∙ e ∙ sym (input_at t b g m q l)))

    beside_differs : (md : Modulation) → modulation_of g.combination ≡ md → (uncoded_by md a g q ≡ uncoded_by md b g q → ⊥) → DifferIn k a b
    beside_differs Bpsk e h = absurd (h refl)
    beside_differs Qpsk e h = absurd (h refl)
    beside_differs Tc8psk e h =
        bit_differs (2 * q) (beside_in t accepted g m q l e) (rw e (omega arith)) h

    at_differs : ((get_or (inputs t a) (g.step + q) 0 ≡ get_or (inputs t b) (g.step + q) 0) × (get_or (uncoded_bits t a) (g.step + q) 0 ≡ get_or (uncoded_bits t b) (g.step + q) 0) → ⊥) → DifferIn k a b
    at_differs h = go (eqb (get_or (inputs t a) (g.step + q) 0) (get_or (inputs t b) (g.step + q) 0)) refl
      where
        go : (w : Bool) → eqb (get_or (inputs t a) (g.step + q) 0) (get_or (inputs t b) (g.step + q) 0) ≡ w → DifferIn k a b
        go true e =
            beside_differs (modulation_of g.combination) refl
            (λ z. h (eqb-true (get_or (inputs t a) (g.step + q) 0) (get_or (inputs t b) (g.step + q) 0) e, beside_at t a g m q l ∙ z ∙ sym (beside_at t b g m q l)))
        go false e = input_differs (eqb-false (get_or (inputs t a) (g.step + q) 0) (get_or (inputs t b) (g.step + q) 0) e)

  -- loads that differ in the steps of slot k differ in its bytes
  pub slot_bytes_lem : (k : ℕ) → k < valid_total t → Differ (inputs t a) (uncoded_bits t a) (inputs t b) (uncoded_bits t b) (mark_at t k) (mark_at t (k + 1)) → DifferIn k a b
  slot_bytes_lem k h d =
      let last = mark_up (runs_of t) (k + 1) (valid_total t) (omega arith) in
      let whole = mark_last (runs_of t) in
      let i = d.at in
      let u = d.under in
      let f = find_step t i (omega arith) in
      let g = f.segment in
      let q = f.place in
      let e = f.place_is in
      at_differs g f.member q f.small k (rw e at d.from) (rw e at d.under) (rw e at d.unlike)
