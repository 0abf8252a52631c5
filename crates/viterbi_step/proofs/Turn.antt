-- A turn of a half step: it writes a state and its bit.
use mathlib.Core.Path.{◌≡◌, refl, ◌∙◌}
use mathlib.Core.Logic.{◌⊎◌, inl, inr, ⊎_elim}
use mathlib.Core.Bool.{cond}
use mathlib.Core.List.{List}
use Prim.Native.Nat.{ℕ, ◌+◌, ◌-◌, ◌*◌, ◌%◌, ◌^◌, ◌<◌}
use native.Mathlib.Omega.{arith}
use native.Mathlib.Nat.{zero-add}
use lib.Bits.{bit_or}
use lib.ListN.{length, get_or, set, length-set}
use lib.Seq.{get_or-set_same, get_or-set_other}
use lib.Ieee.{Float, nan}
use borrow.Author.Count.{below_none, below_more}
use Rattle.trellis.specs.Lists.{bit, packed}
use Rattle.trellis.specs.Step as trellis
use Rattle.trellis.specs.Step.{Step}
use Rattle.trellis.specs.Isdb.{rule, cand, wins, next, nexts, word}
use Rattle.trellis.specs.WrittenLaws.{written_whole, lt_or_ge}
use Rattle.viterbi_choice.specs.PackedLaws.{packed_more, packed_both}
use Rattle.viterbi_choice.specs.ChoiceLaws.{beats_wins, larger_next}
use Rattle.viterbi_step.specs.Half.{Half}

module _ (pm : List Float) (x : Step) where
  pub half_none : (u : ℕ) (l : List Float) → length l ≡ 64 → Half pm x u l 0 l 0
  unfolding packed
  half_none u l long = record {
    long = long;
    values = below_none (λ j. get_or l (32 * u + j) nan ≡ next pm x (32 * u + j));
    others = λ i h. refl;
    bits = refl;
  }

  -- a turn, by the even and the odd path into its state
  pub half_more : (u : ℕ) (l₀ : List Float) (j : ℕ) (l : List Float) (w : ℕ) → Half pm x u l₀ j l w → u < 2 → j < 32 → (e o v : Float) (a : ℕ)
      → e ≡ cand pm x (32 * u + j) 0 → o ≡ cand pm x (32 * u + j) 1 → v ≡ cond (trellis.takes rule e o) o e → a ≡ bit (trellis.takes rule e o)
      → Half pm x u l₀ (j + 1) (set l (32 * u + j) v) (bit_or w ((a * 2 ^ j) % 2 ^ 32))
  half_more u l₀ j l w t hu hj e o v a is-e is-o is-v is-a =
      let k = 32 * u + j in
      let inside : k < length l = rw t.long (omega arith) in
      record {
        long = length-set l k v ∙ t.long;
        values =
            below_more (λ i. get_or (set l k v) (32 * u + i) nan ≡ next pm x (32 * u + i)) j
            (λ i hi. get_or-set_other l k (32 * u + i) v nan (λ q. omega arith) ∙ t.values i hi)
            (get_or-set_same l k v nan inside ∙ larger_next pm x k e o v is-e is-o is-v);
        others =
            λ i h.
            ⊎_elim
            (λ low. get_or-set_other l k i v nan (λ q. omega arith) ∙ t.others i (inl low))
            (λ high. get_or-set_other l k i v nan (λ q. omega arith) ∙ t.others i (inr (omega arith)))
            h;
        bits = packed_more (λ i. wins pm x (32 * u + i)) j 32 w a hj t.bits (beats_wins pm x k e o a is-e is-o is-a);
      }

  -- both halves
  module _ (l₀ l₁ l : List Float) (low high : ℕ) (lower : Half pm x 0 l₀ 32 l₁ low) (upper : Half pm x 1 l₁ 32 l high) where
    pub new_values : l ≡ nexts pm x
    unfolding trellis.nexts
    new_values =
        written_whole nan (next pm x) 64 l upper.long
        (λ k h.
        ⊎_elim
        (λ small. upper.others k (inl small) ∙ rw (zero-add k) at (lower.values k small))
        (λ big. let e : 32 * 1 + (k - 32) ≡ k = omega arith in rw e at (upper.values (k - 32) (omega arith)))
        (lt_or_ge k 32))

    pub new_word : low + high * 4294967296 ≡ word pm x
    unfolding trellis.word
    new_word =
        let is-low : low ≡ packed (wins pm x) 32 = simp zero-add at lower.bits in
        rw (is-low, upper.bits) (packed_both (wins pm x) 32 32)
