-- Words without a combination.
use mathlib.Core.Path.{◌≡◌, refl}
use mathlib.Core.Bool.{cond}
use Prim.Native.Nat.{ℕ, zero, suc}
use lib.Dec.{eqb}
use borrow.Author.Tests.{ne_eqb}
use Rattle.std.specs.Prelude.{None}
use Rattle.isdbs_combination.specs.declared.CombinationWord.TheVariants.{Dummy, Reserved}
use Rattle.isdbs_combination.specs.Combinations.{combination_of, unassigned}

-- none of the words 1 to 7
abbrev pub Other : ℕ → Type 0
Other w =
    (((((((Unit × (w ≡ 1 → ⊥)) × (w ≡ 2 → ⊥)) × (w ≡ 3 → ⊥)) × (w ≡ 4 → ⊥)) × (w ≡ 5 → ⊥)) × (w ≡ 6 → ⊥)) × (w ≡ 7 → ⊥))

pub other : (w : ℕ) → Other w → None ≡ combination_of w
other zero h = refl
other (suc zero) h = absurd (h.0.0.0.0.0.0.1 refl)
other (suc (suc zero)) h = absurd (h.0.0.0.0.0.1 refl)
other (suc (suc (suc zero))) h = absurd (h.0.0.0.0.1 refl)
other (suc (suc (suc (suc zero)))) h = absurd (h.0.0.0.1 refl)
other (suc (suc (suc (suc (suc zero))))) h = absurd (h.0.0.1 refl)
other (suc (suc (suc (suc (suc (suc zero)))))) h = absurd (h.0.1 refl)
other (suc (suc (suc (suc (suc (suc (suc zero))))))) h = absurd (h.1 refl)
other (suc (suc (suc (suc (suc (suc (suc (suc w)))))))) h = refl

pub reserved : (w : ℕ) → Other w → (w ≡ 15 → ⊥) → Reserved w ≡ unassigned w (combination_of w)
reserved w h n = rw (← other w h, ne_eqb w 15 n)
