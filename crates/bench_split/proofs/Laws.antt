-- Laws of the definitions: one element more of each, as a loop over a list takes it.
use mathlib.Core.Path.{◌≡◌, refl, ap}
use mathlib.Core.Bool.{Bool, true, false, cond, ◌&&◌}
use mathlib.Core.List.{List, [], ◌∷◌}
use Prim.Native.Nat.{ℕ, zero, suc, ◌+◌, ◌-◌, ◌<◌}
use native.Mathlib.Numerals.{add-one}
use native.Mathlib.Omega.{arith}
use borrow.Author.Tests.{eqb-true}
use lib.Dec.{eqb}
use lib.ListN.{length, get_or, take, drop}
use lib.Seq.{drop-cons}
use Rattle.std.specs.Cmp.Lexicographic.{pointwise}
use Rattle.bench_split.specs.Agreement.{agreement}
use Rattle.bench_split.specs.Parts.{after, until, stops, equal}
use Rattle.std.specs.List.{count_by}
use Rattle.std.proofs.Common.{◌≤◌, lit≤}
use Rattle.std.proofs.lemmas.List.Recursion.{is_count_by}

-- lists are equal where `equal` says so
pub equal_so : (a b : List ℕ) → equal a b ≡ true → a ≡ b
unfolding equal
equal_so [] [] e = refl
equal_so [] (y ∷ b) e = cc
equal_so (x ∷ a) [] e = cc
equal_so (x ∷ a) (y ∷ b) e = go (eqb x y) refl e (equal_so a b)
  where
    go : (t : Bool) → eqb x y ≡ t → (t && equal a b) ≡ true → (equal a b ≡ true → a ≡ b) → (x ∷ a) ≡ (y ∷ b)
    go true h k f = let p = eqb-true x y h in let q = f k in cc
    go false h k f = cc

-- and differ where it does not
pub equal_not : (a b : List ℕ) → (a ≡ b → ⊥) → equal a b ≡ false
equal_not a b h = go (equal a b) refl
  where
    go : (t : Bool) → equal a b ≡ t → t ≡ false
    go true e = absurd (h (equal_so a b e))
    go false e = refl

module _ (a b : List ℕ) (i : ℕ) (ha : i < length a) (hb : i < length b) where
  pub equal_next : equal (drop i a) (drop i b) ≡ (eqb (get_or a i 0) (get_or b i 0) && equal (drop (i + 1) a) (drop (i + 1) b))
  unfolding equal
  equal_next = rw (add-one, drop-cons a i 0, drop-cons b i 0)

-- `equal` compares place by place
pub equal_pointwise : (a b : List ℕ) → pointwise eqb a b ≡ equal a b
unfolding equal
equal_pointwise [] [] = refl
equal_pointwise [] (y ∷ b) = refl
equal_pointwise (x ∷ a) [] = refl
equal_pointwise (x ∷ a) (y ∷ b) = ap (λ (t : Bool). eqb x y && t) (equal_pointwise a b)

-- no bytes agree with none
pub agreement_none : (a b : List ℕ) → length b ≡ 0 → agreement a b ≡ 0
unfolding agreement
agreement_none [] b h = refl
agreement_none (x ∷ a) [] h = refl
agreement_none (x ∷ a) (y ∷ b) h = absurd (omega arith)

pub none_agreement : (a b : List ℕ) → length a ≡ 0 → agreement a b ≡ 0
unfolding agreement
none_agreement [] b h = refl
none_agreement (x ∷ a) b h = absurd (omega arith)

pub agreement_next : (a b c d : List ℕ) (x y : ℕ) → a ≡ x ∷ c → b ≡ y ∷ d → agreement a b ≡ cond (eqb x y) 1 0 + agreement c d
unfolding agreement
agreement_next a b c d x y e f = rw (e, f)

-- no more agree than there are
pub agreement_fits : (a b : List ℕ) → agreement a b ≤ length a
unfolding agreement
agreement_fits [] b = lit≤ tt
agreement_fits (x ∷ a) [] = omega arith
agreement_fits (x ∷ a) (y ∷ b) = go (eqb x y) (agreement_fits a b)
  where
    go : (t : Bool) → agreement a b ≤ length a → cond t 1 0 + agreement a b ≤ suc (length a)
    go true h = omega arith
    go false h = omega arith

-- the stops are the elements that equal the stop
pub stops_count : (stop : ℕ) (s : List ℕ) → stops stop s ≡ count_by (λ (b : ℕ). eqb b stop) s
unfolding stops
stops_count stop s = is_count_by (stops stop) (λ (b : ℕ). eqb b stop) refl (λ b t. go (eqb b stop) (stops stop t)) s
  where
    go : (t : Bool) (n : ℕ) → cond t 1 0 + n ≡ cond t (1 + n) n
    go true n = refl
    go false n = omega arith

-- what stands before the first stop is no longer than the whole
pub until_fits : (stop : ℕ) (s : List ℕ) → length (until stop s) ≤ length s
unfolding until
until_fits stop [] = lit≤ tt
until_fits stop (b ∷ s) = go (eqb b stop) (until_fits stop s)
  where
    go : (t : Bool) → length (until stop s) ≤ length s → length (cond t [] (b ∷ until stop s)) ≤ suc (length s)
    go true e = omega arith
    go false e = omega arith

pub after_none : (stop k : ℕ) → after stop k [] ≡ []
unfolding after
after_none stop zero = refl
after_none stop (suc k) = refl

module _ (stop : ℕ) (s : List ℕ) (i : ℕ) (h : i < length s) where
  pub stops_next : stops stop (drop i s) ≡ cond (eqb (get_or s i 0) stop) 1 0 + stops stop (drop (i + 1) s)
  unfolding stops
  stops_next = rw (add-one, drop-cons s i 0)

  pub until_next : until stop (drop i s) ≡ cond (eqb (get_or s i 0) stop) [] (get_or s i 0 ∷ until stop (drop (i + 1) s))
  unfolding until
  until_next = rw (add-one, drop-cons s i 0)

  pub after_next : (k : ℕ) → after stop (suc k) (drop i s) ≡ cond (eqb (get_or s i 0) stop) (after stop k (drop (i + 1) s)) (after stop (suc k) (drop (i + 1) s))
  unfolding after
  after_next k = rw (add-one, drop-cons s i 0)

  -- m stops are left before an element, and r fewer after it
  pub after_more : (m r : ℕ) → 0 < m → r ≡ cond (eqb (get_or s i 0) stop) 1 0 → after stop (m - r) (drop (i + 1) s) ≡ after stop m (drop i s)
  after_more zero r p e = absurd (omega arith)
  after_more (suc k) r p e = rw (e, after_next k) (go (eqb (get_or s i 0) stop))
    where
      go : (t : Bool) → after stop (suc k - cond t 1 0) (drop (i + 1) s) ≡ cond t (after stop k (drop (i + 1) s)) (after stop (suc k) (drop (i + 1) s))
      go true = let z : suc k - 1 ≡ k = omega arith in ap (λ (n : ℕ). after stop n (drop (i + 1) s)) z
      go false = let z : suc k - 0 ≡ suc k = omega arith in ap (λ (n : ℕ). after stop n (drop (i + 1) s)) z

-- what stands before the first stop is a front
pub until_front : (stop : ℕ) (s : List ℕ) → take (length (until stop s)) s ≡ until stop s
unfolding until
until_front stop [] = refl
until_front stop (b ∷ s) = go (eqb b stop) (until_front stop s)
  where
    go : (t : Bool) → take (length (until stop s)) s ≡ until stop s → take (length (cond t [] (b ∷ until stop s))) (b ∷ s) ≡ cond t [] (b ∷ until stop s)
    go true e = refl
    go false e = ap (λ (l : List ℕ). b ∷ l) e
