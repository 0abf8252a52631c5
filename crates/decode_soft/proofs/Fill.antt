-- A list of floats that is filled from the front with the values of a function.
use mathlib.Core.Path.{◌≡◌, refl, sym, ap, ◌∙◌}
use mathlib.Core.List.{List}
use Prim.Native.Nat.{ℕ, ◌+◌, ◌≤◌, ◌<◌}
use native.Mathlib.Omega.{arith}
use native.Mathlib.Nat.{add-zero}
use lib.ListN.{length, get_or, set, drop, get_or-append}
use lib.Seq.{get_or-append-add, get_or-drop}
use lib.Ieee.{Float, nan, binary32, mul}
use Rattle.trellis.specs.Lists.{upto, laid}
use Rattle.trellis.specs.ListLaws.{length_upto, get_d_upto}
use Rattle.trellis.specs.LaidLaws.{laid_laid, laid_upto, length_laid_upto, upto_cong}

module _ (f : ℕ → Float) (w : List Float) where
  pub filled_none : w ≡ laid (upto f 0) w
  unfolding upto
  filled_none = refl

  pub filled_long : (k : ℕ) (l : List Float) → k ≤ length w → l ≡ laid (upto f k) w → length l ≡ length w
  filled_long k l h e = ap length e ∙ length_laid_upto f k w h

  pub filled_more : (k : ℕ) (v : Float) (l : List Float) → k < length w → l ≡ laid (upto f k) w → v ≡ f k → set l k v ≡ laid (upto f (k + 1)) w
  filled_more k v l h e x = ap (λ (y : List Float). set y k v) e ∙ laid_upto f k w v h x

  -- the place after the front is as it was
  pub filled_next : (k : ℕ) (l : List Float) → l ≡ laid (upto f k) w → get_or l k nan ≡ get_or w k nan
  filled_next k l e =
      let n : length (upto f k) + 0 ≡ k = add-zero (length (upto f k)) ∙ length_upto f k in
      ap (λ (y : List Float). get_or y k nan) e
      ∙ ap (λ (i : ℕ). get_or (laid (upto f k) w) i nan) (sym n)
      ∙ get_or-append-add (upto f k) (drop (length (upto f k)) w) 0 nan
      ∙ get_or-drop (length (upto f k)) w 0 nan
      ∙ ap (λ (i : ℕ). get_or w i nan) n

  filled_at : (n i : ℕ) → i < n → get_or (laid (upto f n) w) i nan ≡ f i
  filled_at n i h = get_or-append (upto f n) (drop (length (upto f n)) w) nan i (rw (length_upto f n) h) ∙ get_d_upto f nan n i h

  -- the front times the scale
  pub times : (n : ℕ) (scale : Float) (l m : List Float) → l ≡ laid (upto f n) w → m ≡ laid (upto (λ i. mul binary32 (get_or l i nan) scale) n) l
      → m ≡ laid (upto (λ i. mul binary32 (f i) scale) n) w
  times n scale l m e d =
      let g : ℕ → Float = λ i. mul binary32 (f i) scale in
      let c = upto_cong (λ i. mul binary32 (get_or l i nan) scale) g n (λ i h. ap (λ (x : Float). mul binary32 x scale) (ap (λ (y : List Float). get_or y i nan) e ∙ filled_at n i h)) in
      d
      ∙ ap (λ (y : List Float). laid y l) c
      ∙ ap (λ (y : List Float). laid (upto g n) y) e
      ∙ laid_laid (upto f n) (upto g n) w (rw (length_upto f n, length_upto g n) (omega arith))
