-- Sums of parts, sums that are 0, and the most that a count can be.
use Rattle.std.specs.Prelude.{◌≡◌, refl, Bool, true, false, ℕ, zero, suc, ◌+◌, ◌*◌, ◌<◌, ◌≤◌}
use Rattle.std.proofs.Common.{sym, ap, not-suc-le-zero, add-zero, add-suc, add_assoc, mul-zero, mul-suc, arith, below_more}
use Rattle.trellis.specs.Lists.{bit}
use Rattle.strain_marks.specs.Counts.{summed, counted}

pub summed_same : (f g : ℕ → ℕ) (n : ℕ) → ((i : ℕ) → i < n → f i ≡ g i) → summed f n ≡ summed g n
unfolding summed
summed_same f g zero h = refl
summed_same f g (suc n) h = rw (summed_same f g n (λ i l. h i (omega arith)), h n (omega arith))

pub summed_append : (f : ℕ → ℕ) (a b : ℕ) → summed f (a + b) ≡ summed f a + summed (λ i. f (a + i)) b
unfolding summed
summed_append f a zero = rw (add-zero a) (sym (add-zero (summed f a)))
summed_append f a (suc b) = rw (add-suc a b, summed_append f a b) (add_assoc (summed f a) (summed (λ i. f (a + i)) b) (f (a + b)))

-- m parts of n numbers each, the sum of the parts' sums
pub summed_parts : (f : ℕ → ℕ) (n m : ℕ) → summed (λ j. summed (λ i. f (n * j + i)) n) m ≡ summed f (n * m)
unfolding summed
summed_parts f n zero = rw (mul-zero n)
summed_parts f n (suc m) = rw (summed_parts f n m, mul-suc n m) (sym (summed_append f (n * m) n))

-- ---- a sum is 0 exactly when each value is
pub summed_zero : (f : ℕ → ℕ) (n : ℕ) → ((i : ℕ) → i < n → f i ≡ 0) → summed f n ≡ 0
unfolding summed
summed_zero f zero h = refl
summed_zero f (suc n) h = rw (summed_zero f n (λ i l. h i (omega arith)), h n (omega arith))

pub zero_summed : (f : ℕ → ℕ) (n : ℕ) → summed f n ≡ 0 → (i : ℕ) → i < n → f i ≡ 0
unfolding summed
zero_summed f zero e i h = absurd (not-suc-le-zero h)
zero_summed f (suc n) e i h = below_more (λ i. f i ≡ 0) n (zero_summed f n (omega (arith, e))) (omega (arith, e)) i (omega arith)

-- ---- counts
pub bit_few : (b : Bool) → bit b ≤ 1
bit_few true = omega arith
bit_few false = omega arith

pub summed_few : (f : ℕ → ℕ) (n : ℕ) → ((i : ℕ) → f i ≤ 1) → summed f n ≤ n
unfolding summed
summed_few f zero h = omega arith
summed_few f (suc n) h = omega (arith, summed_few f n h, h n)

pub counted_few : (p : ℕ → Bool) (n : ℕ) → counted p n ≤ n
counted_few p n = summed_few (λ i. bit (p i)) n (λ i. bit_few (p i))

pub counted_none : (p : ℕ → Bool) (n : ℕ) → ((i : ℕ) → i < n → p i ≡ false) → counted p n ≡ 0
counted_none p n h = summed_zero (λ i. bit (p i)) n (λ i l. ap bit (h i l))
