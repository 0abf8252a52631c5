-- A law of fronts.
use mathlib.Core.Path.{◌≡◌, sym, ◌∙◌, ap}
use mathlib.Core.List.{List}
use Prim.Native.Nat.{ℕ, ◌+◌, ◌<◌}
use native.Mathlib.Numerals.{add-one}
use lib.ListN.{length, set}
use Rattle.trellis.specs.Lists.{laid, upto}
use Rattle.trellis.specs.ListLaws.{length_upto}
use Rattle.trellis.specs.LaidLaws.{laid_more}

module _ {A : Type 0} where
  -- one more value of f at the end of the front
  pub front_more : (f : ℕ → A) (n : ℕ) (w l : List A) (v : A) → l ≡ laid (upto f n) w → v ≡ f n → n < length w → set l n v ≡ laid (upto f (n + 1)) w
  unfolding upto
  front_more f n w l v e q h =
      rw (e, q, add-one n) (ap (λ (k : ℕ). set (laid (upto f n) w) k (f n)) (sym (length_upto f n)) ∙ laid_more (upto f n) w (f n) (rw (length_upto f n) h))
