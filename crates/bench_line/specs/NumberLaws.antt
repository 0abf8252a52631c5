-- Laws of written numbers.
use Rattle.std.specs.Prelude.{◌≡◌, ℕ, zero, suc, ◌+◌, ◌*◌, ◌<◌, ◌≤◌, Bool, true, false, cond, ◌&&◌, List, [], ◌∷◌, length, drop, pos, nat_le, nat_lt, slice_index, refl, Option, None, Some, Float}
use Rattle.std.proofs.Common.{subst, sym, ap, ◌∙◌, add-one, mul_assoc, mul_comm, arith, leb-true, le-leb, lt-ltb, lit<, lit≤, drop-cons}
use Rattle.std.specs.Float.{nan, inf, fin, binary32}
use Rattle.std.specs.Float.Ieee.{up, down, round, div, of_int}
use Rattle.std.specs.Float.Ieee.Exact.{HasValue}
use Rattle.std.specs.Float.Ieee.Back.{round_whole}
use Rattle.std.specs.Float.Ieee.Scale.{round_same}
use Rattle.std.specs.Float.Ieee.Fits.{down_pos}
use Rattle.bench_line.specs.Numbers.{digit_of, number_from, digits_of}

-- numbers of i digits are below most i
unfoldable pub most : ℕ → ℕ
most zero = 1
most (suc i) = most i * 10

pub most_next : (i : ℕ) → most (i + 1) ≡ most i * 10
unfolding most
most_next i = rw add-one

pub most_le : (i j : ℕ) → i ≤ j → most i ≤ most j
unfolding most
most_le zero zero h = lit≤ tt
most_le zero (suc j) h = let r = most_le zero j (omega arith) in omega arith
most_le (suc i) zero h = absurd (omega arith)
most_le (suc i) (suc j) h = let r = most_le i j (omega arith) in omega arith

pub most_six : (i : ℕ) → i ≤ 6 → most i ≤ 1000000
unfolding most
most_six i h = most_le i 6 h

pub number_next : (v : ℕ) (s : List ℕ) (i : ℕ) → i < length s
    → number_from v (drop i s) ≡ cond (nat_le (digit_of (slice_index s i)) 9) (number_from (v * 10 + digit_of (slice_index s i)) (drop (i + 1) s)) None
unfolding number_from
number_next v s i h = rw (add-one, drop-cons s i 0)

pub digits_within : (s : List ℕ) → 0 < length s → length s ≤ 7 → digits_of s ≡ number_from 0 s
unfolding digits_of
digits_within s p q = rw (le-leb _ _ q, lt-ltb _ _ p)

-- a number, where it is one, is below k
abbrev pub Below : ℕ → Option ℕ → Type 0
Below k (Some v) = v < k
Below k None = Unit

-- j digits and then those of s
pub number_below : (v j k : ℕ) (s : List ℕ) → v < most j → j + length s ≤ k → Below (most k) (number_from v s)
unfolding number_from most
number_below v j k [] h l = let m = most_le j k (omega arith) in omega arith
number_below v j k (b ∷ s) h l = go (nat_le (digit_of b) 9) refl (λ d. number_below (v * 10 + digit_of b) (suc j) k s d (omega arith))
  where
    go : (t : Bool) → nat_le (digit_of b) 9 ≡ t → (v * 10 + digit_of b < most j * 10 → Below (most k) (number_from (v * 10 + digit_of b) s)) → Below (most k) (cond t (number_from (v * 10 + digit_of b) s) None)
    go true e f = let d = leb-true (digit_of b) 9 e in f (omega arith)
    go false e f = tt

pub digits_below : (k : ℕ) (s : List ℕ) → length s ≤ k → Below (most k) (digits_of s)
unfolding digits_of most
digits_below k s h = go (nat_le (length s) 7 && nat_lt 0 (length s))
  where
    go : (t : Bool) → Below (most k) (cond t (number_from 0 s) None)
    go true = number_below 0 0 k s (lit< tt) (omega arith)
    go false = tt

-- t and 1,000 are floats, so their quotient is the float nearest to t / 1,000
div_of : (x : Float) (t : ℕ) → HasValue x false t 1 → div binary32 x (fin false 125 (pos 3)) ≡ round binary32 false t 1000
unfolding div
div_of nan t h = absurd h
div_of (inf s) t h = absurd h
div_of (fin true m e) t h = let z : true ≡ false = h.0 in cc
div_of (fin false m e) t h =
    round_same binary32 false (m * up e * 1) (1000 * down e) t 1000 (omega (arith, down_pos e)) (lit< tt)
    (rw h.1 (mul_assoc t (down e) 1000 ∙ ap (λ (x : ℕ). t * x) (mul_comm (down e) 1000)))

pub thousandth : (t : ℕ) → t < 1000000 → div binary32 (of_int binary32 (pos t)) (fin false 125 (pos 3)) ≡ round binary32 false t 1000
unfolding of_int
thousandth t h = div_of (round binary32 false t 1) t (round_whole binary32 false t (omega arith))
