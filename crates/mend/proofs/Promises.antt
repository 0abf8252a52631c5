-- The promises of request P13, as theorems about any call of `mend`.
use Rattle.std.specs.Prelude.{◌≡◌, refl, Bool, false, not, ◌||◌, List, [], ◌∷◌, ℕ, ◌*◌, ◌%◌, ◌≤◌, ◌<◌, eqb, ltb, length, get_or, take, Result, Ok, Err}
use Rattle.std.proofs.Common.{sym, ap, ◌∙◌, subst, ⊎_elim, arith, zero-add, le-ltb, eq-eqb}
use Rattle.refusal.specs.declared.Refusal.{Refusal}
use Rattle.refusal.specs.Rows.{first_row, answer_of, Accepted, Length, Space, Unmendable}
use Rattle.refusal.proofs.RowLaws.{both_passed, passed_above, fails, last_silent, one_row, err_refuses}
use Rattle.trellis.specs.Code.{isdb}
use Rattle.trellis.specs.Encoded.{reached}
use Rattle.trellis.specs.Stretch.{Bits}
use Rattle.trellis.specs.Lists.{laid}
use Rattle.trellis.specs.LaidLaws.{take_laid}
use Rattle.mend_distance.specs.Stretches.{most_changed, sent_from, unlike, changed, WithinFour}
use Rattle.mend_distance.proofs.StretchLaws.{unique, unlike_self, length_changed, length_sent, bits_sent}
use Rattle.trellis.specs.ListLaws.{none_listed}
use Rattle.mend.specs.Rows.{some_no_bit, most_steps, places, most_bits, lent_rows, mend_rows}
use Rattle.trellis.specs.Isdb.{frame_words}
use Rattle.mend.specs.Allowed.{allowed, no_other}
use Rattle.mend.specs.Listed.{Rising, listed, changed_rising, changed_listed}
use Rattle.mend.specs.Calls.{Mends, Called}

-- an accepted call has a count
accepted_made : (r : Result ℕ Refusal) → answer_of r ≡ Accepted → (count : ℕ) × (r ≡ Ok count)
accepted_made (Ok count) h = (count, refl)
accepted_made (Err row) h = absurd (err_refuses h)

module _ (s e : ℕ) (bits : List ℕ) (r : Result ℕ Refusal) (decisions₀ decisions out₀ out list₀ list : List ℕ) (call : Called s e bits r decisions₀ decisions out₀ out list₀ list) where
  start_below : s % 64 < 64
  start_below = omega arith

  -- what an accepted call leaves
  mends : (count : ℕ) → r ≡ Ok count → Mends s e bits count decisions₀ decisions out₀ out list₀ list
  mends count ok = rw ok at call.leaves

  -- rows 5 and 9 do not hold of it
  bits_of : answer_of r ≡ Accepted → Bits bits
  bits_of ok =
      (allowed bits (length decisions₀) (length out₀) (length list₀)
      (both_passed (lent_rows bits (length decisions₀) (length out₀) (length list₀)) ((Unmendable, call.far) ∷ []) tt (sym call.answers ∙ ok)).0).are_bits

  -- "No other within four exists, by P6": whatever coded stretch between the states lies within four is the one put out
  pub only : (count : ℕ) → r ≡ Ok count → (us : List ℕ) → WithinFour (s % 64) (e % 64) bits us → take (length bits) out ≡ sent_from (s % 64) us
  only count ok us w =
      let m = mends count ok in
      let same : m.inputs ≡ us = unique (s % 64) (e % 64) bits m.inputs us start_below (bits_of (ap answer_of ok)) m.within w in
      let sent = sent_from (s % 64) m.inputs in
      let l : length sent ≡ length bits = length_sent (s % 64) m.inputs ∙ sym m.within.count in
      ap (λ (k : ℕ). take k out) (sym l) ∙ ap (take (length sent)) m.out_is ∙ take_laid sent out₀ ∙ ap (sent_from (s % 64)) same

  -- where rows 5 and 9 do not hold, row 15 decides
  last_row : first_row (lent_rows bits (length decisions₀) (length out₀) (length list₀)) ≡ Accepted → answer_of r ≡ first_row ((Unmendable, call.far) ∷ [])
  last_row ok = call.answers ∙ passed_above (lent_rows bits (length decisions₀) (length out₀) (length list₀)) ((Unmendable, call.far) ∷ []) tt ok

  -- "15 if and only if no coded stretch between those states lies within four bits, checked last": where rows 5 and 9 do not hold and there is none, the answer is 15. That there is
  -- none where the answer is 15 is `none` of the call
  pub fifteen : first_row (lent_rows bits (length decisions₀) (length out₀) (length list₀)) ≡ Accepted → ((us : List ℕ) → WithinFour (s % 64) (e % 64) bits us → ⊥) → answer_of r ≡ Unmendable
  fifteen ok free =
      ⊎_elim
      (λ yes. let made = accepted_made r (last_row ok ∙ yes) in let m = mends made.0 made.1 in absurd (free m.inputs m.within))
      (λ h. last_row ok ∙ h)
      (one_row Unmendable call.far)

  -- "A good stretch comes back as it went in, with an empty list": such a stretch is refused by 9 alone
  module _ (us : List ℕ) (few : length us ≤ most_steps) (inputs : Bits us) (ends : reached isdb (s % 64) us ≡ e % 64) (coded : bits ≡ sent_from (s % 64) us) where
    abbrev pub Short : Bool
    Short = ltb (length out₀) (length bits) || ltb (length list₀) places || ltb (length decisions₀) frame_words

    long : length bits ≡ 2 * length us
    long = ap length coded ∙ length_sent (s % 64) us

    are_bits : Bits bits
    are_bits = rw coded (bits_sent us (s % 64))

    itself : WithinFour (s % 64) (e % 64) bits us
    itself =
        let z = unlike_self bits in
        record { count = long; inputs = inputs; ends = ends; four = subst (λ (l : List ℕ). unlike l bits ≤ most_changed) coded (omega arith) }

    pub good_answer : answer_of r ≡ first_row ((Space, Short) ∷ [])
    good_answer = shorter ∙ last_silent ((Space, Short) ∷ []) Unmendable call.far tt (λ h. call.none (shorter ∙ h) us itself)
      where
        even : length bits % 2 ≡ 0
        even = let n = long in omega arith

        most : length bits ≤ most_bits
        most = let n = long in omega arith

        no_fault : (not (eqb (length bits % 2) 0) || ltb most_bits (length bits) || some_no_bit bits) ≡ false
        no_fault = rw (eq-eqb (length bits % 2) 0 even, le-ltb most_bits (length bits) most, no_other bits are_bits) refl

        shorter : answer_of r ≡ first_row ((Space, Short) ∷ (Unmendable, call.far) ∷ [])
        shorter = call.answers ∙ fails Length (mend_rows bits (length decisions₀) (length out₀) (length list₀) call.far) no_fault

    pub good_stretch : (count : ℕ) → r ≡ Ok count → (out ≡ laid bits out₀) × (count ≡ 0) × (list ≡ list₀)
    good_stretch count ok =
        let m = mends count ok in
        let same : m.inputs ≡ us = unique (s % 64) (e % 64) bits m.inputs us start_below are_bits m.within itself in
        let sent : sent_from (s % 64) m.inputs ≡ bits = ap (sent_from (s % 64)) same ∙ sym coded in
        let z : length (changed 0 bits bits) ≡ 0 = length_changed 0 bits bits ∙ unlike_self bits in (
          m.out_is ∙ ap (λ (l : List ℕ). laid l out₀) sent,
          m.count_is ∙ ap (λ (l : List ℕ). length (changed 0 l bits)) sent ∙ z,
          m.list_is ∙ ap (λ (l : List ℕ). laid (changed 0 l bits) list₀) sent ∙ ap (λ (l : List ℕ). laid l list₀) (none_listed (changed 0 bits bits) z),
        )

  -- "the changed positions in rising order, X of step t (from 0) being 2t and Y 2t+1"
  pub positions : (count : ℕ) → r ≡ Ok count
      → Rising 0 (take count list) × ((k : ℕ) → k < length bits → listed k (take count list) ≡ not (eqb (get_or (take (length bits) out) k 0) (get_or bits k 0)))
  positions count ok =
      let m = mends count ok in
      let sent = sent_from (s % 64) m.inputs in
      let l : length sent ≡ length bits = length_sent (s % 64) m.inputs ∙ sym m.within.count in
      let ps = changed 0 sent bits in
      let at : take count list ≡ ps = ap (λ (k : ℕ). take k list) m.count_is ∙ ap (take (length ps)) m.list_is ∙ take_laid ps list₀ in
      let front : take (length bits) out ≡ sent = ap (λ (k : ℕ). take k out) (sym l) ∙ ap (take (length sent)) m.out_is ∙ take_laid sent out₀ in
      rw (at, front) (changed_rising 0 sent bits, λ k h. rw (zero-add k) at (changed_listed 0 sent bits l k (rw l h)))
