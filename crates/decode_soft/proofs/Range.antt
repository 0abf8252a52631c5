-- The test of the range by comparisons: the pattern of a finite value, without the sign, goes with its magnitude.
use mathlib.Core.Path.{◌≡◌, refl, sym, ◌∙◌, subst}
use mathlib.Core.Logic.{◌⊎◌, inl, inr, ⊎_elim}
use mathlib.Core.Bool.{Bool, true, false, cond, ◌&&◌, ◌||◌, true≢false}
use Prim.Native.Nat.{ℕ, ◌+◌, ◌-◌, ◌*◌, ◌/◌, ◌%◌, ◌^◌, ◌≤◌, ◌<◌}
use native.Mathlib.Nat.{le_trans, le_of_eq, le_of_lt, lt_of_lt_of_le, not-le_of_lt, lt_of_not-le, eq-or-lt_of_le, le-div_iff_mul-le, div-lt_iff_lt-mul, mul-lt-mul_of_pos_right, add-zero, zero-add}
use native.Mathlib.Omega.{arith}
use lib.IntN.{ℤ}
use lib.Dec.{T, lit≤, lit<}
use lib.Pow.{pow-add, pow_pos, pow_mono, shl_lt}
use lib.Ieee.{Float, nan, inf, fin, binary64, size, is_nan, fits, lt, le, eq, neg, of_bits, to_bits}
use lib.Ieee.Digits.{size-lt, size-le, size_reaches}
use lib.Ieee.Exact.{HasValue, units_val}
use lib.Ieee.Bits.{of_bits-fits}
use Rattle.ieee.specs.Value.{mag, hi, lo, Num, hi_of, lo_of, hi_neg, lo_neg, num_neg, finite_of, one_side}
use Rattle.ieee.specs.Order.{or_l, le→value, lt→value, num_between}
use Rattle.ieee.proofs.Bits.{units_bits}
use Rattle.decode_soft.specs.Range.{Between, InRange}

-- ---- the pattern of n of the smallest units, without the sign
abbrev pattern : ℕ → ℕ
pattern n = (size n - 53) * 4503599627370496 + n / 2 ^ (size n - 53)

-- from 2 ^ (52 + a) on
pattern_from : (n a : ℕ) → 0 < a → 2 ^ (52 + a) ≤ n → a * 4503599627370496 + 4503599627370496 ≤ pattern n
pattern_from n a A h = go (size n - 53) refl (lt_of_not-le (λ (g : size n ≤ 52 + a). not-le_of_lt (lt_of_lt_of_le (size-lt n) (pow_mono g)) h))
  where
    go : (k : ℕ) → size n - 53 ≡ k → 52 + a < size n → a * 4503599627370496 + 4503599627370496 ≤ pattern n
    go k e l =
        let r : 2 ^ (52 + k) ≤ n = size_reaches n (52 + k) (omega arith) in
        let w : 4503599627370496 ≤ n / 2 ^ k = (le-div_iff_mul-le (pow_pos k)).1 (le_trans (le_of_eq (sym (pow-add 2 52 k))) r) in
        let j : a ≤ k = omega arith in
        rw e (omega arith)

-- below q * 2 ^ a, for a q of 53 digits
pattern_below : (n a q : ℕ) → 4503599627370496 ≤ q → q < 9007199254740992 → n < q * 2 ^ a → pattern n < a * 4503599627370496 + q
pattern_below n a q least most h =
    let all : size n ≤ 53 + a = size-le n (53 + a) (lt_of_lt_of_le h (le_trans (le_of_lt (mul-lt-mul_of_pos_right most (pow_pos a))) (le_of_eq (sym (pow-add 2 53 a))))) in
    go (size n - 53) refl (omega arith)
  where
    go : (k : ℕ) → size n - 53 ≡ k → k ≤ a → pattern n < a * 4503599627370496 + q
    go k e l =
        let d : n < 2 ^ (53 + k) = lt_of_lt_of_le (size-lt n) (pow_mono {i = size n} {j = 53 + k} (omega arith)) in
        let w : n / 2 ^ k < 9007199254740992 = (div-lt_iff_lt-mul (pow_pos k)).1 (lt_of_lt_of_le d (le_of_eq (pow-add 2 53 k))) in
        rw e (⊎_elim (λ (g : k ≡ a). full g) (λ (g : k < a). omega arith) (eq-or-lt_of_le l))
      where
        full : k ≡ a → k * 4503599627370496 + n / 2 ^ k < a * 4503599627370496 + q
        full g = let w : n / 2 ^ a < q = (div-lt_iff_lt-mul (pow_pos a)).1 h in rw g (omega arith)

-- ---- the pattern of a finite value
unsign : (s : Bool) (k r : ℕ) → k + r < 9223372036854775808 → (cond s 9223372036854775808 0 + k + r) % 9223372036854775808 ≡ k + r
unsign true k r h = omega arith
unsign false k r h = omega arith

bits_of : (s : Bool) (m : ℕ) (e : ℤ) → pattern (mag binary64 (fin s m e)) < 9223372036854775808 → to_bits binary64 (fin s m e) % 9223372036854775808 ≡ pattern (mag binary64 (fin s m e))
unfolding to_bits mag
bits_of s m e h = unsign s _ _ h

-- the limits: 2 ^ 948 units, and 2 ^ 53 - 2 ^ 28 times 2 ^ 1149
between_of : (s : Bool) (m : ℕ) (e : ℤ) → 4503599627370496 * 2 ^ 896 ≤ mag binary64 (fin s m e) → mag binary64 (fin s m e) < 9007198986305536 * 2 ^ 1149 → Between (to_bits binary64 (fin s m e) % 9223372036854775808)
between_of s m e h l =
    let a = pattern_from (mag binary64 (fin s m e)) 896 (lit< tt) h in
    let b = pattern_below (mag binary64 (fin s m e)) 1149 9007198986305536 (lit≤ tt) (lit< tt) l in
    subst Between (sym (bits_of s m e (omega arith))) (omega arith, omega arith)

-- ---- the limits as values
abbrev smallest : Float
smallest = of_bits binary64 4039728865751334912

abbrev over : Float
over = of_bits binary64 5183643170835005440

value_of : (q k : ℕ) → 4503599627370496 ≤ q → q < 9007199254740992 → k < 2045 → HasValue (of_bits binary64 (0 + (k * 4503599627370496 + q))) false (q * 2 ^ k) (2 ^ 1074)
value_of q k least most few =
    subst (λ (x : Float). HasValue x false (q * 2 ^ k) (2 ^ 1074)) (sym (units_bits binary64 false q k (omega arith) (inr least) (omega arith)))
    (units_val binary64 false q k (lt_of_lt_of_le (shl_lt {a = q} 53 k most) (pow_mono {i = 53 + k} {j = 2098} (omega arith))))

smallest_is : HasValue smallest false (4503599627370496 * 2 ^ 896) (2 ^ 1074)
smallest_is = value_of 4503599627370496 896 (lit≤ tt) (lit< tt) (lit< tt)

over_is : HasValue over false (9007198986305536 * 2 ^ 1149) (2 ^ 1074)
over_is = value_of 9007198986305536 1149 (lit≤ tt) (lit< tt) (lit< tt)

num_of : (b n : ℕ) → HasValue (of_bits binary64 b) false n (2 ^ 1074) → Num binary64 (of_bits binary64 b)
num_of b n v = record { fin_x = finite_of (of_bits binary64 b) false n (2 ^ 1074) v; fits_x = of_bits-fits binary64 b }

-- ---- the comparisons, in units
from_le : (a h l th tl : ℕ) → th ≡ a → tl ≡ 0 → th + l ≤ h + tl → a ≤ h + l
from_le a h l th tl e z g = omega arith

from_ge : (a h l th tl : ℕ) → th ≡ 0 → tl ≡ a → h + tl ≤ th + l → a ≤ h + l
from_ge a h l th tl e z g = omega arith

from_lt : (b h l th tl nh nl : ℕ) → (h ≡ 0) ⊎ (l ≡ 0) → th ≡ b → tl ≡ 0 → nh ≡ 0 → nl ≡ b → h + tl < th + l → nh + l < h + nl → h + l < b
from_lt b h l th tl nh nl (inl o) e z p q g k = omega arith
from_lt b h l th tl nh nl (inr o) e z p q g k = omega arith

test : (b : Bool) → b ≡ true → T b
test b e = subst T (sym e) tt

pub and_true : (a b : Bool) → (a && b) ≡ true → (a ≡ true) × (b ≡ true)
and_true true b e = (refl, e)
and_true false b e = absurd (true≢false (sym e))

or_true : (a b : Bool) → (a || b) ≡ true → (a ≡ true) ⊎ (b ≡ true)
or_true true b e = inl refl
or_true false b e = inr e

lt_le : (x y : Float) → lt x y ≡ true → T (le x y)
unfolding le
lt_le x y e = or_l (lt x y) (eq x y) (test (lt x y) e)

-- ---- a value below the upper limit, and one from the lower on
over_num : Num binary64 over
over_num = num_of 5183643170835005440 (9007198986305536 * 2 ^ 1149) over_is

smallest_num : Num binary64 smallest
smallest_num = num_of 4039728865751334912 (4503599627370496 * 2 ^ 896) smallest_is

under : (x : Float) → Num binary64 x → lt x over ≡ true → lt (neg over) x ≡ true → hi binary64 x + lo binary64 x < 9007198986305536 * 2 ^ 1149
under x n h k =
    let b = 9007198986305536 * 2 ^ 1149 in
    from_lt b (hi binary64 x) (lo binary64 x) (hi binary64 over) (lo binary64 over) (hi binary64 (neg over)) (lo binary64 (neg over))
    (one_side binary64 x)
    (hi_of binary64 over false b over_is)
    (lo_of binary64 over false b over_is)
    (hi_neg binary64 over ∙ lo_of binary64 over false b over_is)
    (lo_neg binary64 over ∙ hi_of binary64 over false b over_is)
    (lt→value binary64 x over n over_num (test (lt x over) h))
    (lt→value binary64 (neg over) x (num_neg over_num) n (test (lt (neg over) x) k))

from : (x : Float) → Num binary64 x → (le smallest x ≡ true) ⊎ (le x (neg smallest) ≡ true) → 4503599627370496 * 2 ^ 896 ≤ hi binary64 x + lo binary64 x
from x n (inl h) =
    let a = 4503599627370496 * 2 ^ 896 in
    from_le a (hi binary64 x) (lo binary64 x) (hi binary64 smallest) (lo binary64 smallest) (hi_of binary64 smallest false a smallest_is) (lo_of binary64 smallest false a smallest_is)
    (le→value binary64 smallest x smallest_num n (test (le smallest x) h))
from x n (inr h) =
    let a = 4503599627370496 * 2 ^ 896 in
    from_ge a (hi binary64 x) (lo binary64 x) (hi binary64 (neg smallest)) (lo binary64 (neg smallest))
    (hi_neg binary64 smallest ∙ lo_of binary64 smallest false a smallest_is)
    (lo_neg binary64 smallest ∙ hi_of binary64 smallest false a smallest_is)
    (le→value binary64 x (neg smallest) n (num_neg smallest_num) (test (le x (neg smallest)) h))

sides : (s : Bool) (m : ℕ) (e : ℤ) → hi binary64 (fin s m e) + lo binary64 (fin s m e) ≡ mag binary64 (fin s m e)
unfolding hi lo
sides true m e = zero-add (mag binary64 (fin true m e))
sides false m e = add-zero (mag binary64 (fin false m e))

-- ---- what passes the test
within : (x : Float) → Num binary64 x → hi binary64 x + lo binary64 x < 9007198986305536 * 2 ^ 1149
    → ((le smallest x || le x (neg smallest)) ≡ true) ⊎ (eq x (of_bits binary64 0) ≡ true) → InRange x
unfolding is_nan
within nan n u o = absurd n.fin_x
within (inf s) n u o = absurd n.fin_x
within (fin s m e) n u (inl o) = record {
  number = tt;
  between = λ (z : eq (fin s m e) (of_bits binary64 0) ≡ false).
      between_of s m e
      (subst (λ (k : ℕ). 4503599627370496 * 2 ^ 896 ≤ k) (sides s m e) (from (fin s m e) n (or_true (le smallest (fin s m e)) (le (fin s m e) (neg smallest)) o)))
      (subst (λ (k : ℕ). k < 9007198986305536 * 2 ^ 1149) (sides s m e) u);
}
within (fin s m e) n u (inr z) = record { number = tt; between = λ (f : eq (fin s m e) (of_bits binary64 0) ≡ false). absurd (true≢false (sym z ∙ f)) }

pub passes : (x : Float) → T (fits binary64 x) → ((((le smallest x || le x (neg smallest)) || eq x (of_bits binary64 0)) && lt x over) && lt (neg over) x) ≡ true → InRange x
passes x t e =
    let near = (le smallest x || le x (neg smallest)) || eq x (of_bits binary64 0) in
    let above = and_true (near && lt x over) (lt (neg over) x) e in
    let below = and_true near (lt x over) above.0 in
    let n = num_between (num_neg over_num) over_num t (lt_le (neg over) x above.1) (lt_le x over below.1) in
    within x n (under x n below.1 above.1) (or_true (le smallest x || le x (neg smallest)) (eq x (of_bits binary64 0)) below.0)
