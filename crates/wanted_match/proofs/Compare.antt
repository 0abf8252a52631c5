-- Two f64 are equal exactly when their bits are, where neither is a NaN; and so are two lists of them.
use mathlib.Core.Path.{◌≡◌, refl, sym, ◌∙◌, ap, subst}
use mathlib.Core.Bool.{Bool, true, false, not, true≢false}
use mathlib.Core.List.{List}
use Prim.Native.Nat.{ℕ, ◌+◌, ◌<◌}
use native.Mathlib.Omega.{arith}
use borrow.Author.Count.{below_more}
use borrow.Author.Tests.{eq-eqb}
use lib.Dec.{T, eqb, eqb→eq}
use lib.ListN.{get_or}
use lib.Ieee.{Float, nan, inf, fin, is_nan, ne, eq, binary64, fits, to_bits, of_bits}
use lib.Ieee.Bits.{of_bits-to_bits}
use Rattle.wanted_match.specs.Alike.{Same, SameParts, SamePoints}

-- what equals a value is a number
pub equal_first : (x y : Float) → eq x y ≡ true → T (not (is_nan x))
unfolding eq is_nan
equal_first nan y e = absurd (true≢false (sym e))
equal_first (inf s) y e = tt
equal_first (fin s m d) y e = tt

pub equal_second : (x y : Float) → eq x y ≡ true → T (not (is_nan y))
unfolding eq is_nan
equal_second x (inf s) e = tt
equal_second x (fin s m d) e = tt
equal_second nan nan e = absurd (true≢false (sym e))
equal_second (inf s) nan e = absurd (true≢false (sym e))
equal_second (fin s m d) nan e = absurd (true≢false (sym e))

pub same_bits : (x y : Float) → T (fits binary64 x) → T (fits binary64 y) → Same x y (eqb (to_bits binary64 x) (to_bits binary64 y))
same_bits x y p q =
    record {
      yes = λ e.
          let b : to_bits binary64 x ≡ to_bits binary64 y = eqb→eq (to_bits binary64 x) (to_bits binary64 y) (subst T (sym e) tt) in
          sym (of_bits-to_bits binary64 x p) ∙ ap (of_bits binary64) b ∙ of_bits-to_bits binary64 y q;
      no = λ e h. absurd (true≢false (sym (eq-eqb (to_bits binary64 y) (to_bits binary64 y) refl) ∙ ap (λ (z : Float). eqb (to_bits binary64 z) (to_bits binary64 y)) (sym h) ∙ e));
    }

-- values that differ have other bits, and only a NaN differs from itself
pub same_unequal : (x y : Float) → eq x y ≡ false → Same x y false
unfolding ne
same_unequal x y e = record { yes = λ q. absurd (true≢false (sym q)); no = λ q h. rw (subst (λ (z : Float). eq z y ≡ false) h e) }

-- ---- parts from number `from` on
module _ (xs : List Float) (from : ℕ) (f : ℕ → Float) where
  pub parts_differ : (n i : ℕ) → i < n → Same (get_or xs (from + i) nan) (f i) false → SameParts xs from f n false
  parts_differ n i h s =
      record {
        yes = λ q. absurd (true≢false (sym q));
        no = λ q numbers e. true≢false (sym (s.no refl (e i h)) ∙ numbers i h);
      }

  pub parts_same : (n : ℕ) → ((k : ℕ) → k < n → get_or xs (from + k) nan ≡ f k) → SameParts xs from f n true
  parts_same n h = record { yes = λ q. h; no = λ q. absurd (true≢false q) }

  pub parts_more : (i : ℕ) → ((k : ℕ) → k < i → get_or xs (from + k) nan ≡ f k) → get_or xs (from + i) nan ≡ f i → (k : ℕ) → k < i + 1 → get_or xs (from + k) nan ≡ f k
  parts_more i h e k l = below_more (λ j. get_or xs (from + j) nan ≡ f j) i h e k (omega arith)

-- ---- points, by the answers of the two comparisons
module _ (re im : List Float) (from : ℕ) (f g : ℕ → Float) (n : ℕ) where
  pub both_compared : (a b : Bool) → a ≡ true → SameParts re from f n a → SameParts im from g n b → SamePoints re im from f g n b
  both_compared a b e x y =
      record {
        re_yes = λ q. x.yes e;
        im_yes = λ q. y.yes q;
        no = λ q numbers h. y.no q (λ k l. (numbers k l).1) (λ k l. (h k l).1);
      }

  pub first_differs : (a : Bool) → a ≡ false → SameParts re from f n a → SamePoints re im from f g n false
  first_differs a e x =
      record {
        re_yes = λ q. absurd (true≢false (sym q));
        im_yes = λ q. absurd (true≢false (sym q));
        no = λ q numbers h. x.no e (λ k l. (numbers k l).0) (λ k l. (h k l).0);
      }
