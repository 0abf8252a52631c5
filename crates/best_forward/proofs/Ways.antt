-- A step of the table as the code works it out, a butterfly a turn.
use mathlib.Core.Path.{◌≡◌, refl, ◌∙◌}
use mathlib.Core.Logic.{⊎_elim}
use mathlib.Core.List.{List}
use Prim.Native.Nat.{ℕ, ◌+◌, ◌-◌, ◌*◌, ◌%◌, ◌^◌, ◌<◌, min}
use native.Mathlib.Omega.{arith}
use lib.Bits.{bit_or}
use lib.Dec.{leb}
use lib.ListN.{length, get_or, set, length-set}
use lib.Seq.{get_or-set_same, get_or-set_other}
use borrow.Author.Count.{below_none, below_more}
use Rattle.trellis.specs.Lists.{bit, packed}
use Rattle.trellis.specs.ListLaws.{packed_small}
use Rattle.viterbi_choice.specs.PackedLaws.{packed_more, packed_both}
use Rattle.trellis.specs.WrittenLaws.{written_whole, lt_or_ge}
use Rattle.best_grid.specs.Costs.{through, next, nexts, odd, word}

module _ (old : List ℕ) (c : ℕ → ℕ) where
  -- j butterflies of a step: the costs of their states in both halves, and their decisions
  pub record Stepped (j : ℕ) (d : List ℕ) (low high : ℕ) : Type 0 where
    pub long : length d ≡ 64
    pub lower : (i : ℕ) → i < j → get_or d i 0 ≡ next old c i
    pub upper : (i : ℕ) → i < j → get_or d (32 + i) 0 ≡ next old c (32 + i)
    pub lows : low ≡ packed (odd old c) j
    pub highs : high ≡ packed (λ i. odd old c (32 + i)) j

  pub stepped_none : (d : List ℕ) → length d ≡ 64 → Stepped 0 d 0 0
  unfolding packed
  stepped_none d h = record { long = h; lower = below_none (λ i. get_or d i 0 ≡ next old c i); upper = below_none (λ i. get_or d (32 + i) 0 ≡ next old c (32 + i)); lows = refl; highs = refl }

  -- the choice between two ways into the state k
  pub record Chosen (k x b : ℕ) : Type 0 where
    pub least : x ≡ next old c k
    pub decision : b ≡ bit (odd old c k)

  pub chosen : (k even odd' x b : ℕ) → even ≡ through old c k 0 → odd' ≡ through old c k 1 → x ≡ min even odd' → b ≡ bit (leb odd' even) → Chosen k x b
  unfolding next
  chosen k even odd' x b is-even is_odd is_x is_b = record { least = is_x ∙ rw (is-even, is_odd) refl; decision = is_b ∙ rw (is-even, is_odd) refl }

  pub stepped_more : (j : ℕ) (d : List ℕ) (low high : ℕ) → Stepped j d low high → j < 32 → (x y a b : ℕ) → Chosen j x a → Chosen (32 + j) y b
      → Stepped (j + 1) (set (set d j x) (32 + j) y) (bit_or low ((a * 2 ^ j) % 2 ^ 64)) (bit_or high ((b * 2 ^ j) % 2 ^ 64))
  stepped_more j d low high s h x y a b below above =
      let inside : j < length d = let n = s.long in omega arith in
      let beyond : 32 + j < length (set d j x) = let n = s.long in let m = length-set d j x in omega arith in
      record {
        long = length-set (set d j x) (32 + j) y ∙ length-set d j x ∙ s.long;
        lower =
            below_more (λ i. get_or (set (set d j x) (32 + j) y) i 0 ≡ next old c i) j
            (λ i hi. get_or-set_other (set d j x) (32 + j) i y 0 (λ q. omega arith) ∙ get_or-set_other d j i x 0 (λ q. omega arith) ∙ s.lower i hi)
            (get_or-set_other (set d j x) (32 + j) j y 0 (λ q. omega arith) ∙ get_or-set_same d j x 0 inside ∙ below.least);
        upper =
            below_more (λ i. get_or (set (set d j x) (32 + j) y) (32 + i) 0 ≡ next old c (32 + i)) j
            (λ i hi. get_or-set_other (set d j x) (32 + j) (32 + i) y 0 (λ q. omega arith) ∙ get_or-set_other d j (32 + i) x 0 (λ q. omega arith) ∙ s.upper i hi)
            (get_or-set_same (set d j x) (32 + j) y 0 beyond ∙ above.least);
        lows = packed_more (odd old c) j 64 low a (omega arith) s.lows below.decision;
        highs = packed_more (λ i. odd old c (32 + i)) j 64 high b (omega arith) s.highs above.decision;
      }

  pub stepped_small : (j : ℕ) (d : List ℕ) (low high : ℕ) → Stepped j d low high → j ≡ 32 → (low < 0x1_0000_0000) × (high < 0x1_0000_0000)
  stepped_small j d low high s e =
      let l : low < 2 ^ 32 = rw (s.lows, e) (packed_small (odd old c) 32) in
      let h : high < 2 ^ 32 = rw (s.highs, e) (packed_small (λ i. odd old c (32 + i)) 32) in
      (l, h)

  pub stepped_whole : (j : ℕ) (d : List ℕ) (low high w : ℕ) → Stepped j d low high → j ≡ 32 → w ≡ low + high * 0x1_0000_0000 → (d ≡ nexts old c) × (w ≡ word old c)
  unfolding nexts word
  stepped_whole j d low high w s e is-w =
      let all : (k : ℕ) → k < 64 → get_or d k 0 ≡ next old c k =
      λ k h. ⊎_elim (λ small. s.lower k (rw e small)) (λ big. let f : 32 + (k - 32) ≡ k = omega arith in rw f at (s.upper (k - 32) (omega arith))) (lt_or_ge k 32) in
      (written_whole 0 (next old c) 64 d s.long all, is-w ∙ rw (s.lows, s.highs, e) (packed_both (odd old c) 32 32))
