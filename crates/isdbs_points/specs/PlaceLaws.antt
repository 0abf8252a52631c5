-- Segments that lie end to end, in symbols, in steps or in bits: `first` and `size` pick which. What `among` says of a place.
use Rattle.std.specs.Prelude.{◌≡◌, Bool, not, cond, T, ltb, get_or, length}
use Rattle.std.proofs.Math.Path.{refl}
use Rattle.std.proofs.Math.Bool.{true, false}
use mathlib.Core.List.{List, [], ◌∷◌}
use Prim.Native.Nat.{ℕ, zero, suc, ◌+◌, ◌-◌, ◌<◌, ◌≤◌}
use native.Mathlib.Omega.{arith}
use Rattle.std.proofs.Common.{not-suc-le-zero, add-one, ltb→lt, nltb→le, lt-ltb, le-ltb}
use Rattle.isdbs_points.specs.Layout.{Segment, In, here, there, among}

module _ (first size : Segment → ℕ) where
  -- they fill the places from a up to b
  unfoldable pub Fill : List Segment → ℕ → ℕ → Type 0
  Fill [] a b = a ≡ b
  Fill (g ∷ gs) a b = (first g ≡ a) × Fill gs (a + size g) b

  -- place k is place i of the segment g of a list
  pub record Found (gs : List Segment) (k : ℕ) : Type 0 where
    pub segment : Segment
    pub member : In segment gs
    pub place : ℕ
    pub small : place < size segment
    pub place_is : k ≡ first segment + place

  -- ---- a segment lies between the ends
  pub fill_ends : (gs : List Segment) (a b : ℕ) → Fill gs a b → a ≤ b
  unfolding Fill
  fill_ends [] a b e = omega (arith, e)
  fill_ends (g ∷ gs) a b c = let h = fill_ends gs (a + size g) b c.1 in omega arith

  pub fill_member : (g : Segment) (gs : List Segment) (a b : ℕ) → In g gs → Fill gs a b → (a ≤ first g) × (first g + size g ≤ b)
  unfolding Fill
  fill_member g [] a b x c = elim x [ ]
  fill_member g (h ∷ gs) a b here c = let n = fill_ends gs (a + size g) b c.1 in let e = c.0 in (omega arith, omega arith)
  fill_member g (h ∷ gs) a b (there m) c = let n = fill_member g gs (a + size h) b m c.1 in (omega arith, omega arith)

  -- ---- what stands at place i of a segment
  pub among_at : {A : Type 0} (none : A) (f : Segment → ℕ → A) (g : Segment) (gs : List Segment) (a b : ℕ)
      → In g gs → Fill gs a b → (i : ℕ) → i < size g → among first size none f gs (first g + i) ≡ f g i
  unfolding Fill among
  among_at none f g [] a b x c i l = elim x [ ]
  among_at none f g (h ∷ gs) a b here c i l =
      let e : first g + i - first g ≡ i = omega arith in
      rw (lt-ltb (first g + i) (first g + size g) (omega arith), e)
  among_at none f g (h ∷ gs) a b (there m) c i l =
      let r = fill_member g gs (a + size h) b m c.1 in
      let e = c.0 in
      rw (le-ltb (first g + i) (first h + size h) (omega arith))
      (among_at none f g gs (a + size h) b m c.1 i l)

  -- ---- each place below the end is one of a segment
  later : {h : Segment} {gs : List Segment} {k : ℕ} → Found gs k → Found (h ∷ gs) k
  later r = record { segment = r.segment; member = there r.member; place = r.place; small = r.small; place_is = r.place_is }

  pub find : (gs : List Segment) (a b k : ℕ) → Fill gs a b → a ≤ k → k < b → Found gs k
  unfolding Fill
  find [] a b k e l m = absurd (omega (arith, e))
  find (g ∷ gs) a b k c l m = go (ltb k (a + size g)) (ltb→lt k (a + size g)) (nltb→le k (a + size g)) (λ n. find gs (a + size g) b k c.1 n m)
    where
      go : (t : Bool) → (T t → k < a + size g) → (T (not t) → a + size g ≤ k) → (a + size g ≤ k → Found gs k) → Found (g ∷ gs) k
      go true y n r = let s = y tt in let e = c.0 in record { segment = g; member = here; place = k - a; small = omega arith; place_is = omega arith }
      go false y n r = later (r (n tt))

-- ---- segments by their number
pub get_d_in : (gs : List Segment) (i : ℕ) (d : Segment) → i < length gs → In (get_or gs i d) gs
get_d_in [] i d h = absurd (not-suc-le-zero h)
get_d_in (g ∷ gs) zero d h = here
get_d_in (g ∷ gs) (suc i) d h = there (get_d_in gs i d (omega arith))

module _ (size : Segment → ℕ) where
  -- the places of the first i segments
  unfoldable pub before : List Segment → ℕ → ℕ
  before [] i = 0
  before (g ∷ gs) zero = 0
  before (g ∷ gs) (suc i) = size g + before gs i

  pub before_zero : (gs : List Segment) → before gs 0 ≡ 0
  unfolding before
  before_zero [] = refl
  before_zero (g ∷ gs) = refl

  before_suc : (gs : List Segment) (i : ℕ) (d : Segment) → i < length gs → before gs (suc i) ≡ before gs i + size (get_or gs i d)
  unfolding before
  before_suc [] i d h = absurd (not-suc-le-zero h)
  before_suc (g ∷ gs) zero d h = omega (arith, before_zero gs)
  before_suc (g ∷ gs) (suc i) d h = omega (arith, before_suc gs i d (omega arith))

  pub before_more : (gs : List Segment) (i : ℕ) (d : Segment) → i < length gs → before gs (i + 1) ≡ before gs i + size (get_or gs i d)
  before_more gs i d h = rw (add-one i) (before_suc gs i d h)

module _ (first size : Segment → ℕ) where
  pub fill_first : (gs : List Segment) (a b : ℕ) → Fill first size gs a b → (i : ℕ) (d : Segment) → i < length gs → first (get_or gs i d) ≡ a + before size gs i
  unfolding Fill before
  fill_first [] a b c i d h = absurd (not-suc-le-zero h)
  fill_first (g ∷ gs) a b c zero d h = omega (arith, c.0)
  fill_first (g ∷ gs) a b c (suc i) d h = omega (arith, fill_first gs (a + size g) b c.1 i d (omega arith))

  pub fill_last : (gs : List Segment) (a b : ℕ) → Fill first size gs a b → b ≡ a + before size gs (length gs)
  unfolding Fill before
  fill_last [] a b e = omega (arith, e)
  fill_last (g ∷ gs) a b c = omega (arith, fill_last gs (a + size g) b c.1)

  -- past the last segment there is none
  pub among_past : {A : Type 0} (none : A) (f : Segment → ℕ → A) (gs : List Segment) (a b : ℕ) → Fill first size gs a b → (k : ℕ) → b ≤ k → among first size none f gs k ≡ none
  unfolding Fill among
  among_past none f [] a b c k h = refl
  among_past none f (g ∷ gs) a b c k h =
      let n = fill_ends first size gs (a + size g) b c.1 in
      let e = c.0 in
      rw (le-ltb k (first g + size g) (omega arith)) (among_past none f gs (a + size g) b c.1 k h)

-- what holds of each value and of `none` holds of each place
pub among_all : {A : Type 0} (P : A → Type 0) (first size : Segment → ℕ) (none : A) (f : Segment → ℕ → A) → P none → ((g : Segment) (i : ℕ) → P (f g i))
    → (gs : List Segment) (k : ℕ) → P (among first size none f gs k)
unfolding among
among_all P first size none f p q [] k = p
among_all {A} P first size none f p q (g ∷ gs) k = go (ltb k (first g + size g)) (among first size none f gs k) (among_all P first size none f p q gs k)
  where
    go : (t : Bool) (y : A) → P y → P (cond t (f g (k - first g)) y)
    go true y r = q g (k - first g)
    go false y r = r
