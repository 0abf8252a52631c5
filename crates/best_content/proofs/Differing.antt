-- The least cost of a content that differs in a slot, as the code works it out.
use mathlib.Core.Path.{◌≡◌, refl, ◌∙◌}
use mathlib.Core.List.{List}
use Prim.Native.Nat.{ℕ, ◌+◌, ◌≤◌, ◌<◌, min}
use native.Mathlib.Omega.{arith}
use native.Mathlib.Numerals.{add-one}
use mathlib.Core.Logic.{⊎_elim}
use lib.ListN.{get_or, replicate, get_or-eq_default}
use Rattle.trellis.specs.Lists.{upto}
use Rattle.trellis.specs.ListLaws.{length_upto, get_d_upto}
use Rattle.trellis.specs.WrittenLaws.{lt_or_ge}
use Rattle.best_backward.specs.Prices.{Halved}
use Rattle.best_grid.specs.Backward.{least_of, far, fars}

pub least_more : (a d : List ℕ) (s m x : ℕ) → m ≡ least_of a d s → x ≡ min m (get_or a s 0 + get_or d s 0) → x ≡ least_of a d (s + 1)
unfolding least_of
least_more a d s m x e f = f ∙ rw (e, add-one s) refl

-- a table of no contents
pub fars_is : replicate 64 far ≡ fars
unfolding fars upto
fars_is = refl

pub fars_halved : (d : List ℕ) → d ≡ fars → Halved d
unfolding fars
fars_halved d e k =
    ⊎_elim (λ (h : k < 64). rw (e, get_d_upto {A = ℕ} (λ s. far) 0 64 k h) (omega arith))
    (λ (h : 64 ≤ k). rw (e, get_or-eq_default {A = ℕ} (upto (λ s. far) 64) 0 {n = k} (rw (length_upto {A = ℕ} (λ s. far) 64) h)) (omega arith))
    (lt_or_ge k 64)

-- what the cheapest content that differs costs, from what the steps back left
pub differing_is : (table : List ℕ) (run : List ℕ → List ℕ) (none d : List ℕ) (m : ℕ) → none ≡ fars → d ≡ run none → m ≡ least_of table d 64 → m ≡ least_of table (run fars) 64
differing_is table run none d m e f g = g ∙ rw (f, e) refl
