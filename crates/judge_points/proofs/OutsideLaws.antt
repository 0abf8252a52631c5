-- The sum is the number of points outside, and 0 exactly where the points lie within the margins of the load.
use Rattle.std.specs.Prelude.{◌≡◌, refl, Bool, true, false, not, ◌&&◌, List, ℕ, ◌+◌, ◌*◌, ◌<◌, ◌≤◌, T, length, Float}
use Rattle.std.proofs.Common.{sym, ◌∙◌, ap, arith}
use Rattle.trellis.specs.Lists.{bit}
use Rattle.isdbs_tables.specs.declared.Table.{Table}
use Rattle.isdbs_frame.specs.Frame.{main_symbols}
use Rattle.isdbs_points.specs.declared.Mapping.{Mapping}
use Rattle.margins.specs.Margins.{Within}
use Rattle.strain_marks.specs.Counts.{counted}
use Rattle.strain_marks.specs.CountsLaws.{summed_parts, zero_summed, counted_few, counted_none}
use Rattle.judge_points.specs.Outside.{re_holds, im_holds, outside, outside_of, outside_sum}
use Rattle.isdbs_combination.specs.Combinations.{slot_symbols, frame_slots}

-- a point is inside exactly where both its parts hold
inside_is : (a b : Bool) → not (a && b) ≡ false → T a × T b
inside_is true true e = (tt, tt)
inside_is true false e = let z : ◌≡◌ {A = ℕ} 1 0 = ap bit e in absurd (omega arith)
inside_is false b e = let z : ◌≡◌ {A = ℕ} 1 0 = ap bit e in absurd (omega arith)

is_inside : (a b : Bool) → T a → T b → not (a && b) ≡ false
is_inside true true p q = refl
is_inside true false p q = absurd q
is_inside false b p q = absurd p

-- a count of 0 counts nothing
bit_zero : (b : Bool) → bit b ≡ 0 → b ≡ false
bit_zero true e = absurd (omega (arith, e))
bit_zero false e = refl

none_counted : (p : ℕ → Bool) (n : ℕ) → counted p n ≡ 0 → (i : ℕ) → i < n → p i ≡ false
none_counted p n e i l = bit_zero (p i) (zero_summed (λ i. bit (p i)) n e i l)

module _ (re im : List Float) (load : List ℕ) (t : Table) (m : Mapping) (first : Bool) where
  abbrev out : ℕ → Bool
  out = outside re im load t m first

  -- the sum is the number of points outside among the frame's 38,976
  pub outside_sum_lem : outside_sum re im load t m first ≡ counted out main_symbols
  unfolding outside_of
  outside_sum_lem = summed_parts (λ k. bit (out k)) slot_symbols frame_slots

  pub outside_of_few : (j : ℕ) → outside_of re im load t m first j ≤ slot_symbols
  unfolding outside_of
  outside_of_few j = counted_few (λ i. out (slot_symbols * j + i)) slot_symbols

  pub outside_few : outside_sum re im load t m first ≤ main_symbols
  outside_few = omega (arith, outside_sum_lem, counted_few out main_symbols)

  -- THE LAW, both directions: "the sum is 0 exactly when `Within` of demand 3 holds of the points and the load"
  pub sum_zero_within : main_symbols ≤ length re → main_symbols ≤ length im → outside_sum re im load t m first ≡ 0 → Within re im load t m first
  sum_zero_within R I e =
      let none = none_counted out main_symbols (sym outside_sum_lem ∙ e) in
      record {
        re_count = R;
        im_count = I;
        re_parts = λ k l. (inside_is (re_holds re im load t m first k) (im_holds re im load t m first k) (none k l)).0;
        im_parts = λ k l. (inside_is (re_holds re im load t m first k) (im_holds re im load t m first k) (none k l)).1;
      }

  pub within_sum_zero : Within re im load t m first → outside_sum re im load t m first ≡ 0
  within_sum_zero w =
      outside_sum_lem ∙ counted_none out main_symbols (λ k l. is_inside (re_holds re im load t m first k) (im_holds re im load t m first k) (w.re_parts k l) (w.im_parts k l))

  -- and then every slot's count is 0
  pub within_none_outside : Within re im load t m first → (j : ℕ) → j < frame_slots → outside_of re im load t m first j ≡ 0
  within_none_outside w = zero_summed (outside_of re im load t m first) frame_slots (within_sum_zero w)
