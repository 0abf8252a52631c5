-- Laws of the first n values of a function, of lists without a place, of tests that are computed, of the number whose bits are a test's, and of padded lists.
use Rattle.std.specs.Prelude.{◌≡◌, refl, Bool, true, false, cond, ◌&&◌, List, [], ◌∷◌, ◌++◌, ℕ, zero, suc, ◌+◌, ◌-◌, ◌*◌, ◌/◌, ◌%◌, ◌^◌, ◌≤◌, ◌<◌, T, eqb, length, get_or, set, replicate}
use Rattle.std.proofs.Common.{sym, ◌∙◌, ap, append_assoc, arith, not-suc-le-zero, mul_assoc, mul-le-mul_right, zero-add, pow-suc, pow-add, pow_pos, length-append, length-set, ext_get_or, get_or-set_same, get_or-set_other, below_more, eqb-true}
use Rattle.std.proofs.Math.Nat.{add-mul-div_right, add-mul-mod_self_right, div-eq_of_lt}
use Rattle.std.specs.Float.Ieee.Fits.{and_l, and_r}
use Rattle.std.proofs.lemmas.List.{length-replicate, get_or-replicate, get_or_at}
use Rattle.std.proofs.Math.ListN.{get_or-append}
use Rattle.std.proofs.Math.Seq.{set-append_seam}
use Rattle.std.proofs.lemmas.Bool.{eqb-false}
use Rattle.trellis.specs.Lists.{upto, bit, packed, padded}

pub length_upto : {A : Type 0} (f : ℕ → A) (n : ℕ) → length (upto f n) ≡ n
unfolding upto
length_upto f zero = refl
length_upto f (suc n) = length-append (upto f n) (f n ∷ []) ∙ omega (arith, length_upto f n)

pub get_d_upto : {A : Type 0} (f : ℕ → A) (d : A) (n i : ℕ) → i < n → get_or (upto f n) i d ≡ f i
unfolding upto
get_d_upto f d zero i h = absurd (not-suc-le-zero h)
get_d_upto f d (suc n) i h =
    below_more (λ j. get_or (upto f n ++ (f n ∷ [])) j d ≡ f j) n
    (λ j hj. get_or-append (upto f n) (f n ∷ []) d j (rw (length_upto f n) hj) ∙ get_d_upto f d n j hj)
    (get_or_at (upto f n) (f n) [] d n (length_upto f n))
    i (omega arith)

-- a list without a place
pub none_listed : {A : Type 0} (l : List A) → length l ≡ 0 → l ≡ []
none_listed [] e = refl
none_listed (x ∷ l) e = absurd (omega arith)

-- ---- computed tests
-- f passes at each number below n
unfoldable pub every : (ℕ → Bool) → ℕ → Bool
every f zero = true
every f (suc n) = f n && every f n

pub every_at : (f : ℕ → Bool) (n : ℕ) → T (every f n) → (k : ℕ) → k < n → T (f k)
unfolding every
every_at f zero t k h = absurd (not-suc-le-zero h)
every_at f (suc n) t k h = below_more (λ i. T (f i)) n (every_at f n (and_r (f n) (every f n) t)) (and_l (f n) (every f n) t) k (omega arith)

-- whether two tests say the same
abbrev pub equal_tests : Bool → Bool → Bool
equal_tests true b = b
equal_tests false true = false
equal_tests false false = true

pub equal_tests_lem : (a b : Bool) → T (equal_tests a b) → a ≡ b
equal_tests_lem true true t = refl
equal_tests_lem true false t = absurd t
equal_tests_lem false true t = absurd t
equal_tests_lem false false t = refl

-- ---- the bits of a packed number
-- a multiple of 2 ^ k leaves each bit below k
low : (r q k i : ℕ) → i < k → (r + q * 2 ^ k) / 2 ^ i % 2 ≡ r / 2 ^ i % 2
low r q k i h =
    let d = k - i - 1 in
    let n : k ≡ d + 1 + i = omega arith in
    let e : q * 2 ^ k ≡ q * 2 ^ d * 2 * 2 ^ i =
    ap (λ (x : ℕ). q * 2 ^ x) n ∙ ap (λ (x : ℕ). q * x) (pow-add 2 (d + 1) i ∙ ap (λ (x : ℕ). x * 2 ^ i) (pow-add 2 d 1))
    ∙ sym (mul_assoc q (2 ^ d * 2) (2 ^ i)) ∙ ap (λ (x : ℕ). x * 2 ^ i) (sym (mul_assoc q (2 ^ d) 2)) in
    rw (e, add-mul-div_right r (q * 2 ^ d * 2) (pow_pos i)) (add-mul-mod_self_right (r / 2 ^ i) (q * 2 ^ d) 2)

pub bit_is : (b : Bool) → (bit b < 2) × (bit b % 2 ≡ bit b)
bit_is true = (omega arith, refl)
bit_is false = (omega arith, refl)

pub packed_small : (f : ℕ → Bool) (n : ℕ) → packed f n < 2 ^ n
unfolding packed
packed_small f zero = omega arith
packed_small f (suc n) =
    let h = packed_small f n in
    let b = bit_is (f n) in
    let m : bit (f n) * 2 ^ n ≤ 1 * 2 ^ n = mul-le-mul_right (2 ^ n) (omega arith) in
    let e : 2 ^ suc n ≡ 2 ^ n * 2 = pow-suc 2 n in
    omega arith

packed_top : (f : ℕ → Bool) (n : ℕ) → (packed f n + bit (f n) * 2 ^ n) / 2 ^ n % 2 ≡ bit (f n)
packed_top f n = rw (add-mul-div_right (packed f n) (bit (f n)) (pow_pos n), div-eq_of_lt (packed_small f n), zero-add (bit (f n))) (bit_is (f n)).1

pub packed_bit : (f : ℕ → Bool) (n k : ℕ) → k < n → packed f n / 2 ^ k % 2 ≡ bit (f k)
unfolding packed
packed_bit f zero k h = absurd (not-suc-le-zero h)
packed_bit f (suc n) k h =
    below_more (λ i. (packed f n + bit (f n) * 2 ^ n) / 2 ^ i % 2 ≡ bit (f i)) n
    (λ i hi. low (packed f n) (bit (f n)) n i hi ∙ packed_bit f n i hi)
    (packed_top f n)
    k (omega arith)

-- ---- one value at one place, and padded lists
module _ {A : Type 0} where
  one_place : (n m k : ℕ) (v z : A) (t : Bool) → m < n → k < n → eqb k m ≡ t → get_or (set (replicate n v) m z) k v ≡ cond t z v
  one_place n m k v z true h g e =
      rw (eqb-true k m e) (get_or-set_same (replicate n v) m z v (rw (length-replicate n v) h))
  one_place n m k v z false h g e =
      get_or-set_other (replicate n v) m k z v (eqb-false k m e) ∙ get_or-replicate n k v v g

  -- one value everywhere but at one place
  pub set_replicate : (n m : ℕ) (v z : A) → m < n → set (replicate n v) m z ≡ upto (λ k. cond (eqb k m) z v) n
  set_replicate n m v z h =
      let f : ℕ → A = λ k. cond (eqb k m) z v in
      let e : length (set (replicate n v) m z) ≡ n = length-set (replicate n v) m z ∙ length-replicate n v in
      ext_get_or v (set (replicate n v) m z) (upto f n) (e ∙ sym (length_upto f n))
      (λ k g. one_place n m k v z (eqb k m) h (rw e at g) refl ∙ sym (get_d_upto f v n k (rw e at g)))

  -- the front of a padded list is the list
  pub padded_at : (n : ℕ) (d : A) (l : List A) (i : ℕ) → i < length l → get_or (padded n d l) i d ≡ get_or l i d
  padded_at n d l i h = get_or-append l (replicate (n - length l) d) d i h

  set_front : (l : List A) (d x : A) (m k : ℕ) → m ≡ suc k → set (l ++ replicate m d) (length l) x ≡ l ++ (x ∷ replicate k d)
  set_front l d x m k e = rw e (set-append_seam l d (replicate k d) x)

  -- one more at the front of the filler
  pub padded_more : (n : ℕ) (d x : A) (l : List A) → length l < n → set (padded n d l) (length l) x ≡ padded n d (l ++ (x ∷ []))
  padded_more n d x l h =
      let e : n - length (l ++ (x ∷ [])) ≡ n - length l - 1 = simp length-append (omega arith) in
      set_front l d x (n - length l) (n - length l - 1) (omega arith)
      ∙ rw e (sym (append_assoc l (x ∷ []) (replicate (n - length l - 1) d)))
