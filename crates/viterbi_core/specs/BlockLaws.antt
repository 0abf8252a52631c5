-- Blocks of steps: len steps of a call with neither a 64th step's subtraction nor a release inside are the steps repeated. `run_steps` rests on this.
use Rattle.std.specs.Prelude.{◌≡◌, refl, Bool, true, false, eqb, length, Float}
use Rattle.std.proofs.Math.Path.{sym, ap}
use Rattle.std.proofs.Common.{◌∙◌, arith, add-zero, add-suc, length-append, eq-eqb, ne_eqb, eqb-true}
use Rattle.std.proofs.Math.Bool.{cond}
use mathlib.Core.List.{List, [], ◌∷◌, ◌++◌, append-nil, append_assoc}
use Prim.Native.Nat.{ℕ, zero, suc, ◌+◌, ◌-◌, ◌*◌, ◌/◌, ◌%◌, ◌<◌, ◌≤◌}
use Rattle.std.proofs.lemmas.Bool.{eqb-false}
use Rattle.trellis.specs.Lists.{upto}
use Rattle.trellis.specs.ListLaws.{length_upto}
use Rattle.trellis.specs.Step.{Step, renormalised}
use Rattle.trellis.specs.Run.{Decoder, block, settled, stepped, after, pair_steps, four_steps, known_steps}
use Rattle.trellis.specs.Isdb
use Rattle.trellis.specs.Isdb.{nexts, word, settle, step_once, steps, released}
use Rattle.viterbi_steps.specs.Runs.{steps_of, step_values, run_values, run_word, run_words}
use Rattle.viterbi_steps.specs.declared.Kind.{Kind}
use Rattle.viterbi_steps.specs.declared.Kind.TheVariants.{Pairs, Fours, Knowns}
use Rattle.viterbi_core.specs.Calls.{steps_from, due, block_end}
use Rattle.viterbi_core.specs.StepLaws.{unreleased}

-- ---- steps from a place in a call
-- those of a call
pub from_steps : (tb : ℕ) (zs ys : ℕ → Step) (d : Decoder) (i n : ℕ) → ((k : ℕ) → k < n → zs (i + k) ≡ ys k) → steps tb zs d (i + n) ≡ steps_from tb i ys (steps tb zs d i) n
unfolding after steps_from
from_steps tb zs ys d i zero e = rw (add-zero i) refl
from_steps tb zs ys d i (suc n) e =
    rw (add-suc i n, e n (omega arith)) (ap (λ (y : Decoder). step_once tb (i + n) (ys n) y) (from_steps tb zs ys d i n (λ k h. e k (omega arith))))

-- n steps, and m more
pub from_more : (tb i : ℕ) (ys : ℕ → Step) (d : Decoder) (n m : ℕ) → steps_from tb i ys d (n + m) ≡ steps_from tb (i + n) (λ k. ys (n + k)) (steps_from tb i ys d n) m
unfolding steps_from
from_more tb i ys d n zero = rw (add-zero n) refl
from_more tb i ys d n (suc m) =
    let e : i + (n + m) ≡ i + n + m = omega arith in
    rw (add-suc n m, e) (ap (λ (y : Decoder). step_once tb (i + n + m) (ys (n + m)) y) (from_more tb i ys d n m))

-- ---- blocks
-- the test of the step, and that of the block's end after it
same_test : (j : ℕ) (t : Bool) → eqb (j % 64) 63 ≡ t → eqb (j % 64) 63 ≡ eqb (suc j % 64) 0
same_test j true e = let q = eqb-true (j % 64) 63 e in e ∙ sym (eq-eqb (suc j % 64) 0 (omega arith))
same_test j false e = let q = eqb-false (j % 64) 63 e in e ∙ sym (ne_eqb (suc j % 64) 0 (λ z. omega arith))

-- what a step of a call does to the path values: what it does itself, and then the maximum is subtracted where that is due
pub settles : (kind : Kind) (xs : List Float) (bs : List ℕ) (j k : ℕ) (pm : List Float)
    → settle j (steps_of kind xs bs k) (nexts pm (steps_of kind xs bs k)) ≡ cond (due kind (suc j)) (renormalised 32 (step_values pm (steps_of kind xs bs k))) (step_values pm (steps_of kind xs bs k))
unfolding settled step_values
settles Pairs xs bs j k pm = let next = nexts pm (pair_steps xs k) in ap (λ (t : Bool). cond t (renormalised 32 next) next) (same_test j (eqb (j % 64) 63) refl)
settles Fours xs bs j k pm = let next = nexts pm (four_steps xs k) in ap (λ (t : Bool). cond t (renormalised 32 next) next) (same_test j (eqb (j % 64) 63) refl)
settles Knowns xs bs j k pm = refl

-- inside a block it is not
not_due : (kind : Kind) (j : ℕ) → 0 < j % 64 → due kind j ≡ false
not_due Pairs j h = ne_eqb (j % 64) 0 (λ e. omega arith)
not_due Fours j h = ne_eqb (j % 64) 0 (λ e. omega arith)
not_due Knowns j h = refl

-- the decoder d with the path values and words of n more steps
abbrev pub ran : (ℕ → Step) → Decoder → ℕ → Decoder
ran ys d n = record { values = run_values ys d.values n; words = d.words ++ run_words ys d.values n; bits = d.bits }

pub length_ran : (ys : ℕ → Step) (d : Decoder) (n : ℕ) → length (ran ys d n).words ≡ length d.words + n
length_ran ys d n = length-append d.words (run_words ys d.values n) ∙ ap (λ (k : ℕ). length d.words + k) (length_upto (run_word ys d.values) n)

-- the steps ys of a call that are of one kind
abbrev pub Settles : Kind → (ℕ → Step) → Type 0
Settles kind ys = (j k : ℕ) (pm : List Float) → settle j (ys k) (nexts pm (ys k)) ≡ cond (due kind (suc j)) (renormalised 32 (step_values pm (ys k))) (step_values pm (ys k))

module _ (tb i : ℕ) (kind : Kind) (ys : ℕ → Step) (of : Settles kind ys) (d : Decoder) where
  -- inside a block
  inside : (n : ℕ) → i % 64 + n < 64 → length d.words + n < block + tb → steps_from tb i ys d n ≡ ran ys d n
  unfolding steps_from run_values upto
  inside zero h g = ap (λ (ws : List ℕ). record { values = d.values; words = ws; bits = d.bits }) (sym (append-nil d.words))
  inside (suc n) h g =
      let before = ran ys d n in
      let l = length_ran ys d n in
      let next = step_values before.values (ys n) in
      let kept : settle (i + n) (ys n) (nexts before.values (ys n)) ≡ next =
      of (i + n) n before.values ∙ ap (λ (t : Bool). cond t (renormalised 32 next) next) (not_due kind (suc (i + n)) (omega arith)) in
      ap (λ (y : Decoder). step_once tb (i + n) (ys n) y) (inside n (omega arith) (omega arith))
      ∙ unreleased Isdb.half Isdb.labels Isdb.rule tb (i + n) (ys n) before (omega arith)
      ∙ ap (λ (v : List Float). record { values = v; words = before.words ++ (word before.values (ys n) ∷ []); bits = d.bits }) kept
      ∙ ap (λ (ws : List ℕ). record { values = next; words = ws; bits = d.bits }) (append_assoc d.words (run_words ys d.values n) (word before.values (ys n) ∷ []))

  -- a block whole
  pub block_is : (n : ℕ) → 0 < n → i % 64 + n ≤ 64 → length d.words + n ≤ block + tb → steps_from tb i ys d n ≡ block_end tb kind (i + n) (ran ys d n)
  unfolding steps_from stepped run_values upto
  block_is zero p h g = absurd (omega arith)
  block_is (suc n) p h g =
      let before = ran ys d n in
      let next = step_values before.values (ys n) in
      let ws = before.words ++ (word before.values (ys n) ∷ []) in
      let one : suc (i + n) ≡ i + suc n = sym (add-suc i n) in
      ap (λ (y : Decoder). step_once tb (i + n) (ys n) y) (inside n (omega arith) (omega arith))
      ∙ ap (λ (v : List Float). released tb (record { values = v; words = ws; bits = d.bits })) (of (i + n) n before.values ∙ ap (λ (m : ℕ). cond (due kind m) (renormalised 32 next) next) one)
      ∙ ap (λ (w : List ℕ). released tb (record { values = cond (due kind (i + suc n)) (renormalised 32 next) next; words = w; bits = d.bits })) (append_assoc d.words (run_words ys d.values n) (word before.values (ys n) ∷ []))
