-- The order that `lt` tests, of values that are no NaN, infinities among them.
use mathlib.Core.Path.{◌≡◌, refl, sym, subst}
use mathlib.Core.Logic.{◌⊎◌, inl, inr}
use mathlib.Core.Bool.{Bool, true, false, not, ◌&&◌}
use Prim.Native.Nat.{ℕ, suc, ◌+◌, ◌^◌, ◌<◌, ◌≤◌}
use native.Mathlib.Nat.{le_of_suc-le-suc, lt_of_not-le, zero-mul, zero-div}
use native.Mathlib.Omega.{arith}
use lib.IntN.{ℤ}
use lib.Dec.{T, eqb, eqb→eq}
use lib.Pow.{pow_pos}
use lib.Ieee.{Float, nan, inf, fin, binary32, low, up, down, lt, fits, of_bits}
use lib.Ieee.Scale.{overflow}
use Rattle.ieee.specs.Value.{mag, hi, lo, Num, hi_under, lo_under, one_side}
use Rattle.ieee.specs.Order.{lt→value, value→lt}
use Rattle.ieee.proofs.Zero.{plain, unique}
use Rattle.viterbi_peak.specs.Sign.{NotZero}

false_of : (b : Bool) → (T b → ⊥) → b ≡ false
false_of true h = absurd (h tt)
false_of false h = refl

-- no NaN
abbrev number : Float → Bool
number nan = false
number (inf s) = true
number (fin s m e) = true

abbrev pub Real : Float → Type 0
Real x = T (fits binary32 x) × T (number x)

-- a value is over - under, an infinity further than any number
unfoldable big : ℕ
big = overflow binary32

unfoldable over : Float → ℕ
over nan = 0
over (inf true) = 0
over (inf false) = big
over (fin s m e) = hi binary32 (fin s m e)

unfoldable under : Float → ℕ
under nan = 0
under (inf true) = big
under (inf false) = 0
under (fin s m e) = lo binary32 (fin s m e)

big_pos : 0 < big
unfolding big
big_pos = pow_pos 277

inside : (s : Bool) (m : ℕ) (e : ℤ) → T (fits binary32 (fin s m e)) → (hi binary32 (fin s m e) < big) × (lo binary32 (fin s m e) < big)
unfolding big
inside s m e t = (hi_under binary32 (fin s m e) t, lo_under binary32 (fin s m e) t)

finite : (s : Bool) (m : ℕ) (e : ℤ) → T (fits binary32 (fin s m e)) → Num binary32 (fin s m e)
finite s m e t = record { fin_x = tt; fits_x = t }

key_lt : (x y : Float) → T (fits binary32 x) → T (fits binary32 y) → T (lt x y) → over x + under y < over y + under x
unfolding lt over under
key_lt nan y p q t = absurd t
key_lt (inf s) nan p q t = absurd t
key_lt (inf true) (inf true) p q t = absurd t
key_lt (inf true) (inf false) p q t = let b = big_pos in omega arith
key_lt (inf false) (inf u) p q t = absurd t
key_lt (inf true) (fin u n d) p q t = let b = inside u n d q in omega arith
key_lt (inf false) (fin u n d) p q t = absurd t
key_lt (fin s m e) nan p q t = absurd t
key_lt (fin s m e) (inf true) p q t = absurd t
key_lt (fin s m e) (inf false) p q t = let b = inside s m e p in omega arith
key_lt (fin s m e) (fin u n d) p q t = lt→value binary32 (fin s m e) (fin u n d) (finite s m e p) (finite u n d q) t

lt_key : (x y : Float) → Real x → Real y → over x + under y < over y + under x → T (lt x y)
unfolding lt over under
lt_key nan y p q h = absurd p.1
lt_key (inf s) nan p q h = absurd q.1
lt_key (inf true) (inf true) p q h = absurd (omega arith)
lt_key (inf true) (inf false) p q h = tt
lt_key (inf false) (inf true) p q h = absurd (omega arith)
lt_key (inf false) (inf false) p q h = absurd (omega arith)
lt_key (inf true) (fin u n d) p q h = tt
lt_key (inf false) (fin u n d) p q h = let b = inside u n d q.0 in absurd (omega arith)
lt_key (fin s m e) nan p q h = absurd q.1
lt_key (fin s m e) (inf true) p q h = let b = inside s m e p.0 in absurd (omega arith)
lt_key (fin s m e) (inf false) p q h = tt
lt_key (fin s m e) (fin u n d) p q h = value→lt binary32 (fin s m e) (fin u n d) (finite s m e p.0) (finite u n d q.0) h

key_ge : (x y : Float) → Real x → Real y → lt x y ≡ false → over y + under x ≤ over x + under y
key_ge x y p q e = le_of_suc-le-suc (lt_of_not-le (λ (h : suc (over x + under y) ≤ over y + under x). subst T e (lt_key x y p q h)))

-- what a value is tested below is no NaN
pub lt_number : (x y : Float) → T (lt x y) → T (number y)
unfolding lt
lt_number nan y t = absurd t
lt_number (inf s) nan t = absurd t
lt_number (inf s) (inf u) t = tt
lt_number (inf s) (fin u n d) t = tt
lt_number (fin s m e) nan t = absurd t
lt_number (fin s m e) (inf u) t = tt
lt_number (fin s m e) (fin u n d) t = tt

-- ---- the laws of the order
pub irreflexive : (x : Float) → T (fits binary32 x) → lt x x ≡ false
irreflexive x p = false_of (lt x x) (λ t. let h = key_lt x x p p t in omega arith)

pub asymmetric : (x y : Float) → T (fits binary32 x) → T (fits binary32 y) → T (lt x y) → lt y x ≡ false
asymmetric x y p q t = false_of (lt y x) (λ u. let h = key_lt x y p q t in let k = key_lt y x q p u in omega arith)

-- a is not below b, and b not below v
pub not_below : (a b v : Float) → Real a → Real b → T (fits binary32 v) → lt a b ≡ false → lt b v ≡ false → lt a v ≡ false
not_below a b v p q f h k =
    false_of (lt a v)
    (λ t.
    let i = key_lt a v p.0 f t in
    let g = key_ge a b p q h in
    let m = key_ge b v q (f, lt_number a v t) k in
    omega arith)

-- ---- neither below the other, and no zero: the same
zero_keys : (over (of_bits binary32 0) ≡ 0) × (under (of_bits binary32 0) ≡ 0)
unfolding over under hi lo mag of_bits
zero_keys = (refl, refl)

zero_fits : T (fits binary32 (of_bits binary32 0))
unfolding fits of_bits
zero_fits = tt

apart : (x : Float) → T (fits binary32 x) → NotZero x → over x ≡ under x → ⊥
apart x p (inl e) s = let z = zero_keys in let h = key_lt x (of_bits binary32 0) p zero_fits (subst T (sym e) tt) in omega arith
apart x p (inr e) s = let z = zero_keys in let h = key_lt (of_bits binary32 0) x zero_fits p (subst T (sym e) tt) in omega arith

sides : (a b c d : ℕ) → (a ≡ 0) ⊎ (b ≡ 0) → (c ≡ 0) ⊎ (d ≡ 0) → a + d ≡ c + b → (a ≡ c) × (b ≡ d)
sides a b c d (inl p) (inl q) e = (omega arith, omega arith)
sides a b c d (inl p) (inr q) e = (omega arith, omega arith)
sides a b c d (inr p) (inl q) e = (omega arith, omega arith)
sides a b c d (inr p) (inr q) e = (omega arith, omega arith)

mag_zero : (e : ℤ) → mag binary32 (fin true 0 e) ≡ 0
unfolding mag
mag_zero e = rw (zero-mul (up e), zero-mul (2 ^ low binary32)) (zero-div (down e))

is_plain : (s : Bool) (m : ℕ) (e : ℤ) → (hi binary32 (fin s m e) ≡ lo binary32 (fin s m e) → ⊥) → T (plain (fin s m e))
unfolding hi lo
is_plain false m e h = tt
is_plain true m e h = go (eqb m 0) (eqb→eq m 0)
  where
    go : (w : Bool) → (T w → m ≡ 0) → T (not (true && w))
    go true k = absurd (h (sym (subst (λ (n : ℕ). mag binary32 (fin true n e) ≡ 0) (sym (k tt)) (mag_zero e))))
    go false k = tt

level : (x y : Float) → Real x → Real y → NotZero x → over x + under y ≡ over y + under x → x ≡ y
unfolding over under
level nan y p q z e = absurd p.1
level (inf s) nan p q z e = absurd q.1
level (inf true) (inf true) p q z e = refl
level (inf true) (inf false) p q z e = let b = big_pos in absurd (omega arith)
level (inf false) (inf true) p q z e = let b = big_pos in absurd (omega arith)
level (inf false) (inf false) p q z e = refl
level (inf true) (fin u n d) p q z e = let b = inside u n d q.0 in absurd (omega arith)
level (inf false) (fin u n d) p q z e = let b = inside u n d q.0 in absurd (omega arith)
level (fin s m e) nan p q z h = absurd q.1
level (fin s m e) (inf true) p q z h = let b = inside s m e p.0 in absurd (omega arith)
level (fin s m e) (inf false) p q z h = let b = inside s m e p.0 in absurd (omega arith)
level (fin s m e) (fin u n d) p q z h =
    let x = fin s m e in
    let y = fin u n d in
    let two = sides (hi binary32 x) (lo binary32 x) (hi binary32 y) (lo binary32 y) (one_side binary32 x) (one_side binary32 y) h in
    let far = apart x p.0 z in
    unique binary32 x y (finite s m e p.0) (finite u n d q.0) (is_plain s m e far) (is_plain u n d (λ g. far (omega arith))) two.0 two.1

pub same_value : (x y : Float) → Real x → Real y → lt x y ≡ false → lt y x ≡ false → NotZero x → x ≡ y
same_value x y p q h k z = let a = key_ge x y p q h in let b = key_ge y x q p k in level x y p q z (omega arith)
