-- Two calls in a row: their answer, and what they give back.
use mathlib.Core.Path.{◌≡◌, refl, sym, ◌∙◌, ap}
use mathlib.Core.Bool.{Bool, false, ◌||◌}
use mathlib.Core.List.{List}
use Prim.Native.Nat.{ℕ, ◌≤◌}
use lib.ListN.{length, get_or, take}
use lib.Ieee.{Float, nan}
use borrow.Author.Tests.{eq-eqb, ne_eqb}
use Rattle.refusal.specs.Rows.{Answer, Accepted, Symbols, Space, number_of, first_row}
use Rattle.trellis.specs.Lists.{laid}
use Rattle.refusal.proofs.RowLaws.{neither, neither_holds, passed, none_accepted, zero_accepted}
use Rattle.trellis.specs.LaidLaws.{length_laid_upto}
use Rattle.full_frame_parts.specs.declared.Input.{Input}
use Rattle.full_frame_parts.specs.declared.Input.TheVariants.{Header, Main, Burst}
use Rattle.full_frame_parts.specs.Places.{from, points_of, source_at, place_in, lent_inputs, lent_point, full_part, taken}
use Rattle.full_frame_parts.specs.Rows.{inputs_short, short_frame, lay_rows, take_rows, leaves}
use Rattle.full_frame_parts.specs.RowLaws.{inputs_long, LongFrame, frame_long}
use Rattle.full_frame_parts.specs.RoundTrips.{taken_laid, full_taken}
use Rattle.full_frame_trips.specs.Rows.{both_rows, lay_take_rows, take_lay_rows}

-- ---- the answer by the tests of both calls
pub by_tests : (a : Answer) {s t u : Bool} (s' t' u' : Bool) → s ≡ s' → t ≡ t' → u ≡ u' → a ≡ first_row (both_rows s t u) → a ≡ first_row (both_rows s' t' u')
by_tests a {s} {t} {u} s' t' u' e f g h =
    h ∙ ap (λ (x : Bool). first_row (both_rows x t u)) e ∙ ap (λ (x : Bool). first_row (both_rows s' x u)) f ∙ ap (λ (x : Bool). first_row (both_rows s' t' x)) g

pub none_short : (a : Answer) (s t u : Bool) → a ≡ first_row (both_rows s t u) → number_of a ≡ 0 → (s ≡ false) × (t ≡ false) × (u ≡ false)
none_short a s t u e z =
    let p = passed (both_rows s t u) tt (sym e ∙ zero_accepted a z) in
    let q = neither t u (p Space) in
    (p Symbols, q.0, q.1)

-- ---- what a call leaves: refused, by an equal answer, accepted
module _ (a : Answer) where
  pub kept : (new old : List Float) → (number_of a ≡ 0 → ⊥) → old ≡ leaves a new old
  kept new old n = rw (ne_eqb (number_of a) 0 n)

  pub by_answer : {x : List Float} (b : Answer) (new old : List Float) → a ≡ b → x ≡ leaves a new old → x ≡ leaves b new old
  by_answer b new old e h = h ∙ ap (λ (z : Answer). leaves z new old) e

  accepted_is : {x : List Float} (new old : List Float) → number_of a ≡ 0 → x ≡ leaves a new old → x ≡ laid new old
  accepted_is new old z h = h ∙ rw (eq-eqb (number_of a) 0 z) refl

-- ---- the three inputs, one by one
each_long : (ins : Input → List Float) → inputs_short ins ≡ false → (i : Input) → points_of i ≤ length (ins i)
each_long ins e Header = (inputs_long (length (ins Header)) (length (ins Main)) (length (ins Burst)) e).header_long
each_long ins e Main = (inputs_long (length (ins Header)) (length (ins Main)) (length (ins Burst)) e).main_long
each_long ins e Burst = (inputs_long (length (ins Header)) (length (ins Main)) (length (ins Burst)) e).burst_long

abbrev Taken : Answer → List Float → (Input → List Float) → (Input → List Float) → Type 0
Taken a full ins₀ ins = (i : Input) → ins i ≡ leaves a (taken i full) (ins₀ i)

pub each_taken : (a : Answer) (full hs₀ ms₀ bs₀ : List Float) {hs ms bs : List Float} → hs ≡ leaves a (taken Header full) hs₀ → ms ≡ leaves a (taken Main full) ms₀ → bs ≡ leaves a (taken Burst full) bs₀
    → Taken a full (lent_inputs hs₀ ms₀ bs₀) (lent_inputs hs ms bs)
each_taken a full hs₀ ms₀ bs₀ h m b Header = h
each_taken a full hs₀ ms₀ bs₀ h m b Main = m
each_taken a full hs₀ ms₀ bs₀ h m b Burst = b

-- ---- laying, then taking apart: one part
module _ (a : Answer) (z : number_of a ≡ 0) (ins : Input → List Float) (out₀ out : List Float) (e : out ≡ leaves a (full_part ins) out₀) where
  laid_same : 39936 ≤ length out₀ → length out ≡ length out₀
  laid_same h = ap length (accepted_is a (full_part ins) out₀ z e) ∙ length_laid_upto (λ p. lent_point ins (source_at p)) 39936 out₀ h

  part_back : (b : Answer) (i : Input) (old : List Float) {x : List Float} → points_of i ≤ length (ins i) → x ≡ leaves b (taken i out) old → x ≡ leaves b (take (points_of i) (ins i)) old
  part_back b i old l h =
      h
      ∙ ap (λ (w : List Float). leaves b (taken i w) old) (accepted_is a (full_part ins) out₀ z e)
      ∙ ap (λ (w : List Float). leaves b w old) (taken_laid ins out₀ i l)

-- both parts: what the two calls answer and leave, the second's answer being `b`
pub record LaidTaken (res ims : Input → List Float) (re₀ im₀ re im : List Float) (outs outs' : Input → List Float) (b : Answer) : Type 0 where
  pub answer : b ≡ first_row (lay_take_rows res ims re₀ im₀ outs outs')
  pub real : re ≡ leaves b (full_part res) re₀
  pub imaginary : im ≡ leaves b (full_part ims) im₀
  pub real_back : (i : Input) (x old : List Float) → x ≡ leaves b (taken i re) old → x ≡ leaves b (take (points_of i) (res i)) old
  pub imaginary_back : (i : Input) (x old : List Float) → x ≡ leaves b (taken i im) old → x ≡ leaves b (take (points_of i) (ims i)) old

module _ (res ims : Input → List Float) (re₀ im₀ : List Float) (outs outs' : Input → List Float)
    (tests : ((inputs_short res || inputs_short ims) ≡ false) × (short_frame (length re₀) (length im₀) ≡ false) × ((inputs_short outs || inputs_short outs') ≡ false))
    (re im : List Float) (a : Answer) (ea : a ≡ first_row (lay_rows res ims re₀ im₀)) (er : re ≡ leaves a (full_part res) re₀) (ei : im ≡ leaves a (full_part ims) im₀)
    (b : Answer) (eb : b ≡ first_row (take_rows re im outs outs')) where
  laid_first : a ≡ Accepted
  laid_first = ea ∙ none_accepted (lay_rows res ims re₀ im₀) (tests.0, (tests.1, tt))

  laid_number : number_of a ≡ 0
  laid_number = ap number_of laid_first

  laid_inputs : (inputs_short res ≡ false) × (inputs_short ims ≡ false)
  laid_inputs = neither (inputs_short res) (inputs_short ims) tests.0

  laid_frame : LongFrame (length re₀) (length im₀)
  laid_frame = frame_long (length re₀) (length im₀) tests.1

  frame_same : short_frame (length re) (length im) ≡ false
  frame_same =
      ap (λ (n : ℕ). short_frame n (length im)) (laid_same a laid_number res re₀ re er laid_frame.re_long)
      ∙ ap (λ (n : ℕ). short_frame (length re₀) n) (laid_same a laid_number ims im₀ im ei laid_frame.im_long)
      ∙ tests.1

  taken_second : b ≡ Accepted
  taken_second = eb ∙ none_accepted (take_rows re im outs outs') (frame_same, (tests.2, tt))

  lay_take_answer : b ≡ first_row (lay_take_rows res ims re₀ im₀ outs outs')
  lay_take_answer =
      taken_second
      ∙ sym (none_accepted (lay_take_rows res ims re₀ im₀ outs outs') (tests.0, (neither_holds (short_frame (length re₀) (length im₀)) (inputs_short outs || inputs_short outs') tests.1 tests.2, tt)))

  pub laid_taken : LaidTaken res ims re₀ im₀ re im outs outs' b
  laid_taken =
      record {
        answer = lay_take_answer;
        real = by_answer a b (full_part res) re₀ (laid_first ∙ sym taken_second) er;
        imaginary = by_answer a b (full_part ims) im₀ (laid_first ∙ sym taken_second) ei;
        real_back = λ i x old h. part_back a laid_number res re₀ re er b i old (each_long res laid_inputs.0 i) h;
        imaginary_back = λ i x old h. part_back a laid_number ims im₀ im ei b i old (each_long ims laid_inputs.1 i) h;
      }

-- ---- taking apart, then laying: one part
module _ (a : Answer) (z : number_of a ≡ 0) (full : List Float) (ins₀ ins : Input → List Float) (t : Taken a full ins₀ ins) where
  taken_is : (i : Input) → ins i ≡ laid (taken i full) (ins₀ i)
  taken_is i = accepted_is a (taken i full) (ins₀ i) z (t i)

  taken_same : inputs_short ins₀ ≡ false → (i : Input) → length (ins i) ≡ length (ins₀ i)
  taken_same e i = ap length (taken_is i) ∙ length_laid_upto (λ k. get_or full (place_in (from i k)) nan) (points_of i) (ins₀ i) (each_long ins₀ e i)

  short_same : inputs_short ins₀ ≡ false → inputs_short ins ≡ inputs_short ins₀
  short_same e = rw (taken_same e Header, taken_same e Main, taken_same e Burst) refl

  part_again : (b : Answer) (old : List Float) {x : List Float} → 39936 ≤ length full → x ≡ leaves b (full_part ins) old → x ≡ leaves b (take 39936 full) old
  part_again b old l h = h ∙ ap (λ (w : List Float). leaves b w old) (full_taken full ins ins₀ taken_is l)

-- both parts: what the two calls answer and leave, the second's answer being `b`
pub record TakenLaid (re im : List Float) (res₀ ims₀ res ims : Input → List Float) (out out' : List Float) (b : Answer) : Type 0 where
  pub answer : b ≡ first_row (take_lay_rows re im res₀ ims₀ out out')
  pub real : (i : Input) → res i ≡ leaves b (taken i re) (res₀ i)
  pub imaginary : (i : Input) → ims i ≡ leaves b (taken i im) (ims₀ i)
  pub real_again : (x old : List Float) → x ≡ leaves b (full_part res) old → x ≡ leaves b (take 39936 re) old
  pub imaginary_again : (x old : List Float) → x ≡ leaves b (full_part ims) old → x ≡ leaves b (take 39936 im) old

module _ (re im : List Float) (res₀ ims₀ : Input → List Float) (out out' : List Float)
    (tests : (short_frame (length re) (length im) ≡ false) × ((inputs_short res₀ || inputs_short ims₀) ≡ false) × (short_frame (length out) (length out') ≡ false))
    (res ims : Input → List Float) (a : Answer) (ea : a ≡ first_row (take_rows re im res₀ ims₀)) (tr : Taken a re res₀ res) (ti : Taken a im ims₀ ims)
    (b : Answer) (eb : b ≡ first_row (lay_rows res ims out out')) where
  taken_first : a ≡ Accepted
  taken_first = ea ∙ none_accepted (take_rows re im res₀ ims₀) (tests.0, (tests.1, tt))

  taken_number : number_of a ≡ 0
  taken_number = ap number_of taken_first

  taken_inputs : (inputs_short res₀ ≡ false) × (inputs_short ims₀ ≡ false)
  taken_inputs = neither (inputs_short res₀) (inputs_short ims₀) tests.1

  taken_frame : LongFrame (length re) (length im)
  taken_frame = frame_long (length re) (length im) tests.0

  inputs_same : (inputs_short res || inputs_short ims) ≡ false
  inputs_same =
      ap (λ (t : Bool). t || inputs_short ims) (short_same a taken_number re res₀ res tr taken_inputs.0)
      ∙ ap (λ (t : Bool). inputs_short res₀ || t) (short_same a taken_number im ims₀ ims ti taken_inputs.1)
      ∙ tests.1

  laid_second : b ≡ Accepted
  laid_second = eb ∙ none_accepted (lay_rows res ims out out') (inputs_same, (tests.2, tt))

  take_lay_answer : b ≡ first_row (take_lay_rows re im res₀ ims₀ out out')
  take_lay_answer =
      laid_second
      ∙ sym (none_accepted (take_lay_rows re im res₀ ims₀ out out') (tests.0, (neither_holds (inputs_short res₀ || inputs_short ims₀) (short_frame (length out) (length out')) tests.1 tests.2, tt)))

  pub taken_laid_again : TakenLaid re im res₀ ims₀ res ims out out' b
  taken_laid_again =
      record {
        answer = take_lay_answer;
        real = λ i. by_answer a b (taken i re) (res₀ i) (taken_first ∙ sym laid_second) (tr i);
        imaginary = λ i. by_answer a b (taken i im) (ims₀ i) (taken_first ∙ sym laid_second) (ti i);
        real_again = λ x old h. part_again a taken_number re res₀ res tr b old taken_frame.re_long h;
        imaginary_again = λ x old h. part_again a taken_number im ims₀ ims ti b old taken_frame.im_long h;
      }
