-- The runs of a frame one after the other: which segment has a step or a bit of the load, and the sums before run i.
use Rattle.std.specs.Prelude.{◌≡◌, length, get_or, take}
use Rattle.std.proofs.Math.Bool.{true, false}
use mathlib.Core.List.{List, [], ◌∷◌}
use Prim.Native.Nat.{ℕ, zero, suc, ◌+◌, ◌-◌, ◌*◌, ◌<◌, ◌≤◌}
use native.Mathlib.Omega.{arith}
use Rattle.std.proofs.Common.{not-suc-le-zero, le_of_suc-le-suc}
use Rattle.std.proofs.Math.Dec.{ltb}
use borrow.Author.Tests.{lt-ltb, le-ltb}
use Rattle.isdbs_plan.specs.declared.Run.{Run}
use Rattle.isdbs_plan.specs.RunsOf.{valid_in, steps_of, steps_in, no_run}
use Rattle.isdbs_points.specs.Layout.{Segment, segment_of, segments_from, among}
use Rattle.isdbs_combination.specs.Combinations.{slot_bits}

-- the steps and the valid slots of the first i runs
abbrev pub steps_to : List Run → ℕ → ℕ
steps_to rs i = steps_in (take i rs)

abbrev pub valid_to : List Run → ℕ → ℕ
valid_to rs i = valid_in (take i rs)

pub steps_more : (rs : List Run) (i : ℕ) → steps_to rs (suc i) ≡ steps_to rs i + steps_of (get_or rs i no_run)
unfolding steps_in
steps_more [] zero = omega arith
steps_more [] (suc i) = omega arith
steps_more (r ∷ rs) zero = omega arith
steps_more (r ∷ rs) (suc i) = let e = steps_more rs i in omega arith

pub valid_more : (rs : List Run) (i : ℕ) → valid_to rs (suc i) ≡ valid_to rs i + (get_or rs i no_run).valid_slots
unfolding valid_in
valid_more [] zero = omega arith
valid_more [] (suc i) = omega arith
valid_more (r ∷ rs) zero = omega arith
valid_more (r ∷ rs) (suc i) = let e = valid_more rs i in omega arith

pub steps_within : (rs : List Run) (i : ℕ) → steps_to rs i ≤ steps_in rs
unfolding steps_in
steps_within [] zero = omega arith
steps_within [] (suc i) = omega arith
steps_within (r ∷ rs) zero = omega arith
steps_within (r ∷ rs) (suc i) = let e = steps_within rs i in omega arith

pub valid_within : (rs : List Run) (i : ℕ) → valid_to rs i ≤ valid_in rs
unfolding valid_in
valid_within [] zero = omega arith
valid_within [] (suc i) = omega arith
valid_within (r ∷ rs) zero = omega arith
valid_within (r ∷ rs) (suc i) = let e = valid_within rs i in omega arith

module _ {A : Type 0} (none : A) (f : Segment → ℕ → A) where
  -- step x of the frame is step k of run i
  pub among_step : (rs : List Run) (s b i k x : ℕ) → i < length rs → k < steps_of (get_or rs i no_run) → x ≡ s + steps_to rs i + k
      → among (λ g. g.step) (λ g. g.steps) none f (segments_from rs s b) x ≡ f (segment_of (get_or rs i no_run) (s + steps_to rs i) (b + slot_bits * valid_to rs i)) k
  unfolding among segments_from steps_in valid_in
  among_step [] s b i k x h l e = absurd (not-suc-le-zero h)
  among_step (r ∷ rs) s b zero k x h l e =
      let t : ltb x (s + steps_of r) ≡ true = lt-ltb x (s + steps_of r) (omega arith) in
      let ek : x - s ≡ k = omega arith in
      let es : s + 0 ≡ s = omega arith in
      let eb : b + slot_bits * 0 ≡ b = omega arith in
      rw (t, ek, es, eb)
  among_step (r ∷ rs) s b (suc i) k x h l e =
      let t : ltb x (s + steps_of r) ≡ false = le-ltb x (s + steps_of r) (omega arith) in
      let es : s + (steps_of r + steps_to rs i) ≡ s + steps_of r + steps_to rs i = omega arith in
      let eb : b + slot_bits * (r.valid_slots + valid_to rs i) ≡ b + slot_bits * r.valid_slots + slot_bits * valid_to rs i = omega arith in
      rw (t, es, eb) (among_step rs (s + steps_of r) (b + slot_bits * r.valid_slots) i k x (le_of_suc-le-suc h) l (omega arith))

  -- bit x of the load is bit k of run i
  pub among_bit : (rs : List Run) (s b i k x : ℕ) → i < length rs → k < slot_bits * (get_or rs i no_run).valid_slots → x ≡ b + slot_bits * valid_to rs i + k
      → among (λ g. g.bit) (λ g. g.bits) none f (segments_from rs s b) x ≡ f (segment_of (get_or rs i no_run) (s + steps_to rs i) (b + slot_bits * valid_to rs i)) k
  unfolding among segments_from steps_in valid_in
  among_bit [] s b i k x h l e = absurd (not-suc-le-zero h)
  among_bit (r ∷ rs) s b zero k x h l e =
      let t : ltb x (b + slot_bits * r.valid_slots) ≡ true = lt-ltb x (b + slot_bits * r.valid_slots) (omega arith) in
      let ek : x - b ≡ k = omega arith in
      let es : s + 0 ≡ s = omega arith in
      let eb : b + slot_bits * 0 ≡ b = omega arith in
      rw (t, ek, es, eb)
  among_bit (r ∷ rs) s b (suc i) k x h l e =
      let t : ltb x (b + slot_bits * r.valid_slots) ≡ false = le-ltb x (b + slot_bits * r.valid_slots) (omega arith) in
      let es : s + (steps_of r + steps_to rs i) ≡ s + steps_of r + steps_to rs i = omega arith in
      let eb : b + slot_bits * (r.valid_slots + valid_to rs i) ≡ b + slot_bits * r.valid_slots + slot_bits * valid_to rs i = omega arith in
      rw (t, es, eb) (among_bit rs (s + steps_of r) (b + slot_bits * r.valid_slots) i k x (le_of_suc-le-suc h) l (omega arith))
