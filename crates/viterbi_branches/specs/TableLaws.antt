-- A rule of a table, proved at all of its entries by one test that antt computes, one entry after the other.
-- The entries are of any type, so a table of tables is one test with one in it.
use Rattle.std.specs.Prelude.{◌≡◌, Bool, true, false, List, [], ◌∷◌, ℕ, zero, suc, ◌+◌, ◌<◌, T, eqb, length, get_or}
use Rattle.std.proofs.Common.{◌∙◌, subst, sym, add-zero, zero-add, add-suc, suc-add, le_of_suc-le-suc, not-suc-le-zero, eqb→eq}

abbrev pub both : Bool → Bool → Bool
both true b = b
both false b = false

pub both_left : (a b : Bool) → T (both a b) → T a
both_left true b t = tt
both_left false b t = t

pub both_right : (a b : Bool) → T (both a b) → T b
both_right true b t = t
both_right false b t = absurd t

module _ {A : Type 0} where
  -- the test f passes at each entry of the list and its place, counted from i
  abbrev pub every : (ℕ → A → Bool) → ℕ → List A → Bool
  every f i [] = true
  every f i (x ∷ xs) = both (f i x) (every f (suc i) xs)

  from : (f : ℕ → A → Bool) (d : A) (xs : List A) (i : ℕ) → T (every f i xs) → (k : ℕ) → k < length xs → T (f (i + k) (get_or xs k d))
  from f d [] i t k h = absurd (not-suc-le-zero h)
  from f d (x ∷ xs) i t zero h = subst (λ (m : ℕ). T (f m x)) (sym (add-zero i)) (both_left (f i x) (every f (suc i) xs) t)
  from f d (x ∷ xs) i t (suc k) h =
      subst (λ (m : ℕ). T (f m (get_or xs k d))) (suc-add i k ∙ sym (add-suc i k))
      (from f d xs (suc i) (both_right (f i x) (every f (suc i) xs) t) k (le_of_suc-le-suc h))

  -- the list has n entries, and f passes at each
  abbrev pub all : ℕ → (ℕ → A → Bool) → List A → Bool
  all n f xs = both (eqb (length xs) n) (every f 0 xs)

  pub at : (n : ℕ) (f : ℕ → A → Bool) (d : A) (xs : List A) → T (all n f xs) → (k : ℕ) → k < n → T (f k (get_or xs k d))
  at n f d xs t k h =
      subst (λ (m : ℕ). T (f m (get_or xs k d))) (zero-add k)
      (from f d xs 0 (both_right (eqb (length xs) n) (every f 0 xs) t) k
      (subst (λ (m : ℕ). k < m) (sym (eqb→eq (length xs) n (both_left (eqb (length xs) n) (every f 0 xs) t))) h))
