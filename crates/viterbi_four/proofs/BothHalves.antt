-- A step that writes both halves of the states in one loop.
use mathlib.Core.Path.{◌≡◌, refl, ◌∙◌}
use mathlib.Core.Logic.{⊎_elim}
use mathlib.Core.Bool.{cond}
use mathlib.Core.List.{List}
use Prim.Native.Nat.{ℕ, ◌+◌, ◌-◌, ◌*◌, ◌%◌, ◌^◌, ◌<◌}
use native.Mathlib.Omega.{arith}
use lib.Bits.{bit_or}
use lib.ListN.{length, get_or, set, length-set}
use lib.Seq.{get_or-set_same, get_or-set_other}
use lib.Ieee.{Float, nan}
use borrow.Author.Count.{below_none, below_more}
use Rattle.trellis.specs.Lists.{bit, packed}
use Rattle.trellis.specs.Step as trellis
use Rattle.trellis.specs.Step.{Step}
use Rattle.trellis.specs.Isdb.{rule, cand, wins, next, nexts, word}
use Rattle.trellis.specs.WrittenLaws.{written_whole, lt_or_ge}
use Rattle.viterbi_choice.specs.PackedLaws.{packed_more, packed_both}
use Rattle.viterbi_choice.specs.ChoiceLaws.{beats_wins, larger_next}

module _ (pm : List Float) (x : Step) where
  -- k states of each half are written in l, and their decisions are in the two words
  pub record Both (k : ℕ) (l : List Float) (low high : ℕ) : Type 0 where
    pub long : length l ≡ 64
    pub lower : (j : ℕ) → j < k → get_or l j nan ≡ next pm x j
    pub upper : (j : ℕ) → j < k → get_or l (32 + j) nan ≡ next pm x (32 + j)
    pub low_bits : low ≡ packed (wins pm x) k
    pub high_bits : high ≡ packed (λ j. wins pm x (32 + j)) k

  pub both_none : (l : List Float) → length l ≡ 64 → Both 0 l 0 0
  unfolding packed
  both_none l long = record {
    long = long;
    lower = below_none (λ j. get_or l j nan ≡ next pm x j);
    upper = below_none (λ j. get_or l (32 + j) nan ≡ next pm x (32 + j));
    low_bits = refl;
    high_bits = refl;
  }

  -- what one choice gives: the state k by the even and the odd path into it
  abbrev pub Chosen : ℕ → Float → Float → Float → ℕ → Type 0
  Chosen k e o v a = (e ≡ cand pm x k 0) × (o ≡ cand pm x k 1) × (v ≡ cond (trellis.takes rule e o) o e) × (a ≡ bit (trellis.takes rule e o))

  pub both_more : (j : ℕ) (l : List Float) (low high : ℕ) → Both j l low high → j < 32 → (e o v : Float) (a : ℕ) → Chosen j e o v a
      → (e₁ o₁ v₁ : Float) (a₁ : ℕ) → Chosen (32 + j) e₁ o₁ v₁ a₁
      → Both (j + 1) (set (set l j v) (32 + j) v₁) (bit_or low ((a * 2 ^ j) % 2 ^ 32)) (bit_or high ((a₁ * 2 ^ j) % 2 ^ 32))
  both_more j l low high t h e o v a p e₁ o₁ v₁ a₁ q =
      let once = set l j v in
      let inside : j < length l = rw t.long (omega arith) in
      let long : length once ≡ 64 = length-set l j v ∙ t.long in
      let above : 32 + j < length once = rw long (omega arith) in
      record {
        long = length-set once (32 + j) v₁ ∙ long;
        lower =
            below_more (λ i. get_or (set once (32 + j) v₁) i nan ≡ next pm x i) j
            (λ i hi. get_or-set_other once (32 + j) i v₁ nan (λ s. omega arith) ∙ get_or-set_other l j i v nan (λ s. omega arith) ∙ t.lower i hi)
            (get_or-set_other once (32 + j) j v₁ nan (λ s. omega arith) ∙ get_or-set_same l j v nan inside ∙ larger_next pm x j e o v p.0 p.1 p.2);
        upper =
            below_more (λ i. get_or (set once (32 + j) v₁) (32 + i) nan ≡ next pm x (32 + i)) j
            (λ i hi. get_or-set_other once (32 + j) (32 + i) v₁ nan (λ s. omega arith) ∙ get_or-set_other l j (32 + i) v nan (λ s. omega arith) ∙ t.upper i hi)
            (get_or-set_same once (32 + j) v₁ nan above ∙ larger_next pm x (32 + j) e₁ o₁ v₁ q.0 q.1 q.2);
        low_bits = packed_more (wins pm x) j 32 low a h t.low_bits (beats_wins pm x j e o a p.0 p.1 p.3);
        high_bits = packed_more (λ i. wins pm x (32 + i)) j 32 high a₁ h t.high_bits (beats_wins pm x (32 + j) e₁ o₁ a₁ q.0 q.1 q.3);
      }

  -- all states
  module _ (l : List Float) (low high : ℕ) (t : Both 32 l low high) where
    pub both_values : l ≡ nexts pm x
    unfolding trellis.nexts
    both_values =
        written_whole nan (next pm x) 64 l t.long
        (λ k h.
        ⊎_elim
        (λ small. t.lower k small)
        (λ big. let e : 32 + (k - 32) ≡ k = omega arith in rw e at (t.upper (k - 32) (omega arith)))
        (lt_or_ge k 32))

    pub both_word : low + high * 4294967296 ≡ word pm x
    unfolding trellis.word
    both_word = rw (t.low_bits, t.high_bits) (packed_both (wins pm x) 32 32)
