-- The marks of the valid slots: they rise from 0 to the frame's steps, and the steps of a slot are those of its bits.
use Rattle.std.specs.Prelude.{◌≡◌, refl, ◌⊎◌, List, [], ◌∷◌, ℕ, ◌+◌, ◌-◌, ◌*◌, ◌/◌, ◌≤◌, ◌<◌, get_or, length}
use Rattle.std.proofs.Common.{sym, ap, ◌∙◌, inl, inr, arith, mul-le-mul_left, mul-zero, zero-add, lt-ltb, le-ltb}
use Rattle.trellis.specs.ListLaws.{get_d_upto, length_upto}
use Rattle.trellis.specs.WrittenLaws.{lt_or_ge}
use Rattle.isdbs_combination.specs.declared.Combination.{Combination}
use Rattle.isdbs_combination.specs.declared.Combination.TheVariants.{Bpsk1_2, Qpsk1_2, Qpsk2_3, Qpsk3_4, Qpsk5_6, Qpsk7_8, Tc8psk2_3}
use Rattle.isdbs_combination.specs.Combinations.{modulation_of, slot_steps, slot_bits, step_bits}
use Rattle.isdbs_tables.specs.declared.Table.{Table}
use Rattle.isdbs_plan.specs.declared.Run.{Run}
use Rattle.isdbs_plan.specs.RunsOf.{runs_of, steps_of, steps_in, frame_steps, valid_in, valid_total}
use Rattle.isdbs_points.specs.Layout.{Segment, In, here, there, segments_from, segments}
use Rattle.best_content.specs.Slots.{Marked}
use Rattle.best_loads.specs.Marks.{mark_in, mark_at, frame_marks}

-- ---- a run
pub mark_own : (r : Run) (rs : List Run) (k : ℕ) → k < r.valid_slots → mark_in (r ∷ rs) k ≡ slot_steps r.combination * k
unfolding mark_in
mark_own r rs k h = rw (lt-ltb k r.valid_slots h) refl

pub mark_later : (r : Run) (rs : List Run) (k : ℕ) → r.valid_slots ≤ k → mark_in (r ∷ rs) k ≡ steps_of r + mark_in rs (k - r.valid_slots)
unfolding mark_in
mark_later r rs k h = rw (le-ltb k r.valid_slots h) refl

-- the first begins at 0
pub mark_first : (rs : List Run) → mark_in rs 0 ≡ 0
unfolding mark_in
mark_first [] = refl
mark_first (r ∷ rs) = go (mark_first rs) (lt_or_ge 0 r.valid_slots)
  where
    go : mark_in rs 0 ≡ 0 → (0 < r.valid_slots) ⊎ (r.valid_slots ≤ 0) → mark_in (r ∷ rs) 0 ≡ 0
    go i (inl h) = mark_own r rs 0 h ∙ mul-zero (slot_steps r.combination)
    go i (inr h) =
        let z : r.valid_slots ≡ 0 = omega arith in
        let e : 0 - r.valid_slots ≡ 0 = omega arith in
        mark_later r rs 0 h ∙ ap (λ (x : ℕ). steps_of r + mark_in rs x) e ∙ ap (λ (x : ℕ). slot_steps r.combination * x + mark_in rs 0) z ∙ ap (λ (x : ℕ). x + mark_in rs 0) (mul-zero (slot_steps r.combination)) ∙ zero-add (mark_in rs 0) ∙ i

-- the end of a run's slots
mark_seam : (r : Run) (rs : List Run) (j : ℕ) → j ≤ r.valid_slots → mark_in (r ∷ rs) j ≡ slot_steps r.combination * j
mark_seam r rs j h = go (lt_or_ge j r.valid_slots)
  where
    go : (j < r.valid_slots) ⊎ (r.valid_slots ≤ j) → mark_in (r ∷ rs) j ≡ slot_steps r.combination * j
    go (inl l) = mark_own r rs j l
    go (inr l) =
        let e : j ≡ r.valid_slots = omega arith in
        let f : j - r.valid_slots ≡ 0 = omega arith in
        let z = mark_first rs in
        mark_later r rs j l ∙ ap (λ (x : ℕ). steps_of r + mark_in rs x) f ∙ ap (λ (x : ℕ). steps_of r + x) z ∙ ap (λ (x : ℕ). slot_steps r.combination * x + 0) (sym e) ∙ omega arith

-- the last ends at the last step
pub mark_last : (rs : List Run) → mark_in rs (valid_in rs) ≡ steps_in rs
unfolding mark_in valid_in steps_in
mark_last [] = refl
mark_last (r ∷ rs) =
    let e : r.valid_slots + valid_in rs - r.valid_slots ≡ valid_in rs = omega arith in
    mark_later r rs (r.valid_slots + valid_in rs) (omega arith) ∙ ap (λ (x : ℕ). steps_of r + mark_in rs x) e ∙ ap (λ (x : ℕ). steps_of r + x) (mark_last rs)

-- they do not fall
pub mark_up : (rs : List Run) (a b : ℕ) → a ≤ b → mark_in rs a ≤ mark_in rs b
unfolding mark_in
mark_up [] a b h = omega arith
mark_up (r ∷ rs) a b h = go (mark_up rs (a - r.valid_slots) (b - r.valid_slots)) (lt_or_ge a r.valid_slots) (lt_or_ge b r.valid_slots)
  where
    go : (a - r.valid_slots ≤ b - r.valid_slots → mark_in rs (a - r.valid_slots) ≤ mark_in rs (b - r.valid_slots)) → (a < r.valid_slots) ⊎ (r.valid_slots ≤ a) → (b < r.valid_slots) ⊎ (r.valid_slots ≤ b) → mark_in (r ∷ rs) a ≤ mark_in (r ∷ rs) b
    go up (inl x) (inl y) = rw (mark_own r rs a x, mark_own r rs b y) (mul-le-mul_left (slot_steps r.combination) h)
    go up (inl x) (inr y) =
        let m : slot_steps r.combination * a ≤ slot_steps r.combination * r.valid_slots = mul-le-mul_left (slot_steps r.combination) (omega arith) in
        rw (mark_own r rs a x, mark_later r rs b y) (omega arith)
    go up (inr x) (inl y) = absurd (omega arith)
    go up (inr x) (inr y) =
        let i = up (omega arith) in
        rw (mark_later r rs a x, mark_later r rs b y) (omega arith)

-- a slot has steps
steps_some : (c : Combination) → 0 < slot_steps c
steps_some Bpsk1_2 = omega arith
steps_some Qpsk1_2 = omega arith
steps_some Qpsk2_3 = omega arith
steps_some Qpsk3_4 = omega arith
steps_some Qpsk5_6 = omega arith
steps_some Qpsk7_8 = omega arith
steps_some Tc8psk2_3 = omega arith

more : (c j : ℕ) → c * (j + 1) ≡ c * j + c
more c j = omega arith

pub mark_rises : (rs : List Run) (k : ℕ) → k < valid_in rs → mark_in rs k < mark_in rs (k + 1)
unfolding valid_in
mark_rises [] k h = absurd (omega arith)
mark_rises (r ∷ rs) k h = go (mark_rises rs (k - r.valid_slots)) (lt_or_ge k r.valid_slots)
  where
    go : (k - r.valid_slots < valid_in rs → mark_in rs (k - r.valid_slots) < mark_in rs (k - r.valid_slots + 1)) → (k < r.valid_slots) ⊎ (r.valid_slots ≤ k) → mark_in (r ∷ rs) k < mark_in (r ∷ rs) (k + 1)
    go up (inl x) =
        let s = steps_some r.combination in
        let m = more (slot_steps r.combination) k in
        rw (mark_own r rs k x, mark_seam r rs (k + 1) (omega arith)) (omega arith)
    go up (inr x) =
        let i = up (omega arith) in
        let e : k + 1 - r.valid_slots ≡ k - r.valid_slots + 1 = omega arith in
        rw (mark_later r rs k x, mark_later r rs (k + 1) (omega arith), e) (omega arith)

-- ---- a segment: its slots are numbered from `before`, and begin each a slot's steps after the other
pub record Slotted (rs : List Run) (s b : ℕ) (g : Segment) : Type 0 where
  pub before : ℕ
  pub valid : ℕ
  pub bit_is : g.bit ≡ b + slot_bits * before
  pub bits_are : g.bits ≡ slot_bits * valid
  pub steps_are : g.steps ≡ slot_steps g.combination * valid
  pub marks : (j : ℕ) → j ≤ valid → s + mark_in rs (before + j) ≡ g.step + slot_steps g.combination * j

pub slotted : (rs : List Run) (s b : ℕ) (g : Segment) → In g (segments_from rs s b) → Slotted rs s b g
unfolding segments_from
slotted [] s b g x' = elim x' [ ]
slotted (r ∷ rs) s b g here = record {
  before = 0;
  valid = r.valid_slots;
  bit_is = omega arith;
  bits_are = refl;
  steps_are = refl;
  marks = λ j h. ap (λ (x : ℕ). s + mark_in (r ∷ rs) x) (zero-add j) ∙ ap (λ (x : ℕ). s + x) (mark_seam r rs j h);
}
slotted (r ∷ rs) s b g (there m) =
    let o = slotted rs (s + steps_of r) (b + slot_bits * r.valid_slots) g m in
    record {
      before = r.valid_slots + o.before;
      valid = o.valid;
      bit_is = let e = o.bit_is in omega arith;
      bits_are = o.bits_are;
      steps_are = o.steps_are;
      marks = λ j h.
          let e : r.valid_slots + o.before + j - r.valid_slots ≡ o.before + j = omega arith in
          let i = o.marks j h in
          let l = mark_later r rs (r.valid_slots + o.before + j) (omega arith) ∙ ap (λ (x : ℕ). steps_of r + mark_in rs x) e in
          ap (λ (x : ℕ). s + x) l ∙ omega arith;
    }

-- ---- the step of a bit lies in its slot
pace : (c : Combination) (p : ℕ) → (slot_steps c * (p / slot_bits) ≤ p / step_bits (modulation_of c)) × (p / step_bits (modulation_of c) < slot_steps c * (p / slot_bits + 1))
pace Bpsk1_2 p = (omega arith, omega arith)
pace Qpsk1_2 p = (omega arith, omega arith)
pace Qpsk2_3 p = (omega arith, omega arith)
pace Qpsk3_4 p = (omega arith, omega arith)
pace Qpsk5_6 p = (omega arith, omega arith)
pace Qpsk7_8 p = (omega arith, omega arith)
pace Tc8psk2_3 p = (omega arith, omega arith)

-- the step, in its segment, that has bit p of the segment's bytes
abbrev pub step_of : Segment → ℕ → ℕ
step_of g p = g.step + p / step_bits (modulation_of g.combination)

module _ (t : Table) (g : Segment) (m : In g (segments t)) (p : ℕ) (h : p < g.bits) where
  abbrev pub slot : ℕ
  slot = (g.bit + p) / slot_bits

  pub in_slot : (mark_at t slot ≤ step_of g p) × (step_of g p < mark_at t (slot + 1))
  in_slot =
      let o = slotted (runs_of t) 0 0 g m in
      let j = p / slot_bits in
      let b = o.bit_is in
      let v = o.bits_are in
      let e : slot ≡ o.before + j = omega arith in
      let f : slot + 1 ≡ o.before + (j + 1) = omega arith in
      let x = o.marks j (omega arith) in
      let y = o.marks (j + 1) (omega arith) in
      let q = pace g.combination p in
      let x' : mark_at t slot ≡ g.step + slot_steps g.combination * j = ap (mark_at t) e ∙ sym (zero-add (mark_at t (o.before + j))) ∙ x in
      let y' : mark_at t (slot + 1) ≡ g.step + slot_steps g.combination * (j + 1) = ap (mark_at t) f ∙ sym (zero-add (mark_at t (o.before + (j + 1)))) ∙ y in
      rw (x', y') (let a = q.0 in omega arith, let a = q.1 in omega arith)

  -- and in no other
  pub only_slot : (k : ℕ) → mark_at t k ≤ step_of g p → step_of g p < mark_at t (k + 1) → k ≡ slot
  only_slot k a b = go (lt_or_ge k slot) (lt_or_ge slot k)
    where
      go : (k < slot) ⊎ (slot ≤ k) → (slot < k) ⊎ (k ≤ slot) → k ≡ slot
      go (inl x) y = let u = mark_up (runs_of t) (k + 1) slot (omega arith) in let i = in_slot.0 in absurd (omega arith)
      go (inr x) (inl y) = let u = mark_up (runs_of t) (slot + 1) k (omega arith) in let i = in_slot.1 in absurd (omega arith)
      go (inr x) (inr y) = omega arith

-- ---- what the reading asks of the marks
module _ (t : Table) where
  pub mark_at_lem : (k : ℕ) → k ≤ valid_total t → get_or (frame_marks t) k 0 ≡ mark_at t k
  mark_at_lem k h = get_d_upto (mark_at t) 0 (valid_total t + 1) k (omega arith)

  pub marked_of : (marks : List ℕ) → valid_total t + 1 ≤ length marks → ((k : ℕ) → k ≤ valid_total t → get_or marks k 0 ≡ mark_at t k) → Marked marks (valid_total t) (frame_steps t)
  marked_of marks n h = record {
    count = n;
    first = h 0 (omega arith) ∙ mark_first (runs_of t);
    rising = λ k l. rw (h k (omega arith), h (k + 1) (omega arith)) (mark_rises (runs_of t) k l);
    under = λ k l. rw (h k l, ← mark_last (runs_of t)) (mark_up (runs_of t) k (valid_total t) l);
    last = h (valid_total t) (omega arith) ∙ mark_last (runs_of t);
  }

  pub frame_marked : Marked (frame_marks t) (valid_total t) (frame_steps t)
  frame_marked = marked_of (frame_marks t) (let n = length_upto (mark_at t) (valid_total t + 1) in omega arith) mark_at_lem
