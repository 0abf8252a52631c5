-- The valid slots lie end to end: each has its own of the frame's steps, and each step belongs to one slot.
use Rattle.std.specs.Prelude.{◌≡◌}
use Rattle.std.proofs.Math.Path.{refl}
use Rattle.std.proofs.Common.{sym, ◌∙◌, zero-add, mul-suc, mul-le-mul_left, arith, lt-ltb, le-ltb}
use mathlib.Core.List.{List, [], ◌∷◌}
use Prim.Native.Nat.{ℕ, ◌+◌, ◌-◌, ◌*◌, ◌/◌, ◌<◌, ◌≤◌}
use Rattle.std.proofs.Math.Nat.{add_assoc}
use Rattle.isdbs_plan.specs.declared.Run.{Run}
use Rattle.isdbs_tables.specs.declared.Table.{Table}
use Rattle.isdbs_combination.specs.Combinations.{unit_of, slot_steps, slot_bits}
use Rattle.isdbs_plan.specs.RunsOf.{runs_of, valid_in, valid_total, steps_of, steps_in, frame_steps}
use Rattle.isdbs_points.specs.Layout.{Segment, segment_of, segments_from, segments, among, In}
use Rattle.isdbs_points.specs.PlaceLaws.{Fill, Found, among_at, find}
use Rattle.isdbs_tables.specs.Tables.{TableAccepted}
use Rattle.isdbs_points.specs.SizeLaws.{table_whole, step_fits}
use Rattle.strain_marks.specs.Counts.{summed}
use Rattle.strain_marks.specs.CountsLaws.{summed_same, summed_append, summed_parts}
use Rattle.strain_marks.specs.Slots.{slot_of, slots_of, at_slot, over_slot, by_slot}

-- ---- the slots lie end to end
pub fill_slots : (rs : List Run) (s b v : ℕ) → b ≡ slot_bits * v → Fill slot_of slots_of (segments_from rs s b) v (v + valid_in rs)
unfolding Fill segments_from valid_in
fill_slots [] s b v e = omega arith
fill_slots (r ∷ rs) s b v e =
    let n = r.valid_slots in
    let q : slot_bits * n / slot_bits ≡ n = omega arith in
    let h = fill_slots rs (s + steps_of r) (b + slot_bits * n) (v + n) (omega (arith, e)) in
    (omega (arith, e), rw (q, ← add_assoc v n (valid_in rs)) h)

-- ---- the sums over the slots of some runs are the sum over their steps
module _ (f : ℕ → ℕ) where
  runs_sum : (rs : List Run) (s b v : ℕ) → b ≡ slot_bits * v
      → summed (λ j. among slot_of slots_of 0 (over_slot f) (segments_from rs s b) (v + j)) (valid_in rs) ≡ summed (λ i. f (s + i)) (steps_in rs)
  unfolding segments_from among valid_in steps_in summed
  runs_sum [] s b v e = refl
  runs_sum (r ∷ rs) s b v e =
      let n = r.valid_slots in
      let w = slot_steps r.combination in
      let g = segment_of r s b in
      let gs = segments_from rs (s + steps_of r) (b + slot_bits * n) in
      let at : ℕ → ℕ = λ j. among slot_of slots_of 0 (over_slot f) (segments_from (r ∷ rs) s b) (v + j) in
      let here : summed at n ≡ summed (λ i. f (s + i)) (w * n) =
      summed_same at (λ j. summed (λ i. f (s + (w * j + i))) w) n
      (λ j l.
      let d : v + j - b / slot_bits ≡ j = omega (arith, e) in
      rw (lt-ltb (v + j) (b / slot_bits + slot_bits * n / slot_bits) (omega (arith, e)), d))
      ∙ summed_parts (λ i. f (s + i)) w n in
      let there : summed (λ j. at (n + j)) (valid_in rs) ≡ summed (λ i. f (s + (w * n + i))) (steps_in rs) =
      summed_same (λ j. at (n + j)) (λ j. among slot_of slots_of 0 (over_slot f) gs (v + n + j)) (valid_in rs)
      (λ j l. rw (le-ltb (v + (n + j)) (b / slot_bits + slot_bits * n / slot_bits) (omega (arith, e)), add_assoc v n j))
      ∙ runs_sum rs (s + steps_of r) (b + slot_bits * n) (v + n) (omega (arith, e))
      ∙ summed_same (λ i. f (s + steps_of r + i)) (λ i. f (s + (w * n + i))) (steps_in rs) (λ i l. rw (add_assoc s (w * n) i)) in
      summed_append at n (valid_in rs)
      ∙ rw (here, there) (sym (summed_append (λ i. f (s + i)) (w * n) (steps_in rs)))

-- ---- a table
module _ (t : Table) where
  table_slots : Fill slot_of slots_of (segments t) 0 (valid_total t)
  table_slots = rw (zero-add (valid_total t)) at (fill_slots (runs_of t) 0 0 0 (omega arith))

  -- what stands at a slot of a segment
  at_slot_lem : {A : Type 0} (none : A) (f : Segment → ℕ → A) (g : Segment) → In g (segments t) → (v : ℕ) → v < slots_of g → at_slot none f t (slot_of g + v) ≡ f g v
  at_slot_lem none f g m v l = among_at slot_of slots_of none f g (segments t) 0 (valid_total t) m table_slots v l

  pub find_slot : (j : ℕ) → j < valid_total t → Found slot_of slots_of (segments t) j
  find_slot j l = find slot_of slots_of (segments t) 0 (valid_total t) j table_slots (omega arith) l

  -- a segment's steps are those of its slots, so each step of a valid slot is one of the frame's
  pub slot_step_fits : TableAccepted t → (g : Segment) → In g (segments t) → (v i : ℕ) → v < slots_of g → i < slot_steps g.combination → g.step + (slot_steps g.combination * v + i) < frame_steps t
  slot_step_fits a g m v i small below =
      let o = table_whole t a g m in
      let w = slot_steps g.combination in
      let n = o.units * (unit_of g.combination).valid in
      let q : slot_bits * n / slot_bits ≡ n = omega arith in
      let l : v < n = rw (o.bits_are, q) at small in
      let f : w * v + w ≤ w * n = rw (mul-suc w v) at (mul-le-mul_left w l) in
      step_fits t g m (w * v + i) (rw o.steps_are (omega arith))

  -- functions that agree on the frame's steps have the same sum over each valid slot
  pub by_slot_same : TableAccepted t → (f h : ℕ → ℕ) → ((k : ℕ) → k < frame_steps t → f k ≡ h k) → (j : ℕ) → j < valid_total t → by_slot t f j ≡ by_slot t h j
  unfolding by_slot
  by_slot_same a f h e j l =
      let x = find_slot j l in
      let g = x.segment in
      let w = slot_steps g.combination in
      rw (x.place_is, at_slot_lem 0 (over_slot f) g x.member x.place x.small, at_slot_lem 0 (over_slot h) g x.member x.place x.small)
      (summed_same (λ i. f (g.step + (w * x.place + i))) (λ i. h (g.step + (w * x.place + i))) w
      (λ i q. e (g.step + (w * x.place + i)) (slot_step_fits a g x.member x.place i x.small q)))

  -- THE SUM over all valid slots is the sum over the frame's steps: each step belongs to one slot
  pub slots_sum : (f : ℕ → ℕ) → summed (by_slot t f) (valid_total t) ≡ summed f (frame_steps t)
  unfolding by_slot
  slots_sum f =
      summed_same (by_slot t f) (λ j. among slot_of slots_of 0 (over_slot f) (segments t) (0 + j)) (valid_total t) (λ j l. rw (zero-add j))
      ∙ runs_sum f (runs_of t) 0 0 0 (omega arith)
      ∙ summed_same (λ i. f (0 + i)) f (frame_steps t) (λ i l. rw (zero-add i))
