-- The passes over a stretch: the table after t steps, and the words kept so far.
use mathlib.Core.Path.{◌≡◌, refl, sym, ap, ◌∙◌}
use mathlib.Core.List.{List}
use Prim.Native.Nat.{ℕ, ◌+◌, ◌≤◌, ◌<◌}
use native.Mathlib.Omega.{arith}
use native.Mathlib.Numerals.{add-one}
use lib.ListN.{length, set}
use Rattle.trellis.specs.Lists.{upto, laid}
use Rattle.trellis.specs.ListLaws.{length_upto}
use Rattle.trellis.specs.LaidLaws.{laid_more, length_laid}
use Rattle.mend_distance.specs.Distances.{pair_at, nexts, word, begun, nearest, Capped, word_at}
use Rattle.mend_distance.proofs.DistanceLaws.{capped}

pub table_none : (s : ℕ) (r : ℕ → ℕ) (d : List ℕ) → d ≡ begun s → d ≡ nearest s r 0
unfolding nearest
table_none s r d e = e

pub table_more : (s : ℕ) (r : ℕ → ℕ) (t : ℕ) (d new : List ℕ) → d ≡ nearest s r t → new ≡ nexts d (r t) → new ≡ nearest s r (t + 1)
unfolding nearest
table_more s r t d new e f = f ∙ rw (e, add-one t) refl

pub table_capped : (s : ℕ) (r : ℕ → ℕ) (t : ℕ) (d : List ℕ) → d ≡ nearest s r t → Capped d
table_capped s r t d e = rw e (capped s r t)

-- the decision word of step t
pub word_is : (s : ℕ) (bits : List ℕ) (t : ℕ) (d : List ℕ) (w : ℕ) → d ≡ nearest s (pair_at bits) t → w ≡ word d (pair_at bits t) → w ≡ word_at s bits t
word_is s bits t d w e f = f ∙ ap (λ (x : List ℕ). word x (pair_at bits t)) e

module _ (f : ℕ → ℕ) (words₀ : List ℕ) where
  pub words_none : words₀ ≡ laid (upto f 0) words₀
  unfolding upto
  words_none = refl

  pub words_long : (t : ℕ) (words : List ℕ) → t ≤ length words₀ → words ≡ laid (upto f t) words₀ → length words ≡ length words₀
  words_long t words h e = ap length e ∙ length_laid (upto f t) words₀ (let l = length_upto f t in omega arith)

  pub words_more : (t w : ℕ) (words : List ℕ) → t < length words₀ → words ≡ laid (upto f t) words₀ → w ≡ f t → set words t w ≡ laid (upto f (t + 1)) words₀
  unfolding upto
  words_more t w words h e is-w =
      let l = length_upto f t in
      let k : length (upto f t) < length words₀ = omega arith in
      ap (λ (x : List ℕ). set x t w) e
      ∙ ap (λ (i : ℕ). set (laid (upto f t) words₀) i w) (sym l)
      ∙ laid_more (upto f t) words₀ w k
      ∙ rw (is-w, add-one t) refl
