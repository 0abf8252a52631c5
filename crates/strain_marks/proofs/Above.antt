-- A metric is below one of four exactly where it is below the greatest number among them.
use mathlib.Core.Path.{◌≡◌, refl}
use mathlib.Core.Bool.{Bool, true, false, cond, ◌||◌}
use mathlib.Core.List.{List}
use Prim.Native.Nat.{ℕ, zero, suc}
use lib.ListN.{get_or}
use lib.Ieee.{Float, nan, inf, fin, lt}
use Rattle.strain_marks.specs.Strain.{some_above}
use Rattle.strain_marks.specs.Marks.{top_of}
use Rattle.strain_marks.proofs.Order.{Number, never, lt_trans, lt_co}

larger_number : (b y : Float) (t : Bool) → lt b y ≡ t → Number b → Number (cond t y b)
unfolding lt
larger_number b y false e v = v
larger_number nan y true e v = absurd v
larger_number (inf s) nan true e v = never e
larger_number (inf s) (inf u) true e v = tt
larger_number (inf s) (fin u k c) true e v = tt
larger_number (fin s m d) nan true e v = never e
larger_number (fin s m d) (inf u) true e v = tt
larger_number (fin s m d) (fin u k c) true e v = tt

-- the two laws of the order as one
either : (p q r : Bool) → (r ≡ true → p ≡ true → q ≡ true) → (q ≡ true → p ≡ false → r ≡ true) → cond p q r ≡ (r || q)
either true q true f g = f refl refl
either true q false f g = refl
either false q true f g = refl
either false true false f g = g refl refl
either false false false f g = refl

inside : (x b y : Float) (t : Bool) → lt x (cond t y b) ≡ cond t (lt x y) (lt x b)
inside x b y true = refl
inside x b y false = refl

above_more : (x b y : Float) → Number b → lt x (cond (lt b y) y b) ≡ (lt x b || lt x y)
above_more x b y v =
    rw (inside x b y (lt b y)) (either (lt b y) (lt x y) (lt x b) (lt_trans x b y) (lt_co x b y v))

module _ (m : List Float) where
  top_number : (n : ℕ) → Number (top_of m n)
  unfolding top_of
  top_number zero = tt
  top_number (suc n) = larger_number (top_of m n) (get_or m n nan) (lt (top_of m n) (get_or m n nan)) refl (top_number n)

  below_none : (x : Float) → lt x (inf true) ≡ false
  unfolding lt
  below_none nan = refl
  below_none (inf true) = refl
  below_none (inf false) = refl
  below_none (fin s k e) = refl

  pub below_top : (c n : ℕ) → lt (get_or m c nan) (top_of m n) ≡ some_above m c n
  unfolding top_of some_above
  below_top c zero = below_none (get_or m c nan)
  below_top c (suc n) = rw (above_more (get_or m c nan) (top_of m n) (get_or m n nan) (top_number n), below_top c n)
