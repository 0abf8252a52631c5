-- Laws of `rounded`. It keeps the order of all floats, infinities too (`rounded_mono`), and leaves what the format holds as it is (`rounded_self`).
-- So a value between two that the format holds stays between them, and is then finite (`rounded_between`).
use Rattle.std.specs.Prelude.{◌≡◌, refl, Bool, true, false, not, ◌&&◌, ◌||◌, cond, ℕ, zero, suc, ◌*◌, ◌^◌, ◌≤◌, ◌<◌, ℤ, pos, T, ltb, eqb, Float}
use Rattle.std.proofs.Common.{sym, ap, ◌∙◌, subst, inl, inr, le_of_eq, le_of_lt, lt_irrefl, mul-pos, eq-zero-or-pos, ltb→lt, eqb→eq}
use Rattle.std.specs.Float.{nan, inf, fin, Format}
use Rattle.std.specs.Float.Ieee.{prec, low, up, down, neg, fits, odd, units, round, le}
use Rattle.std.specs.Float.Ieee.Fits.{down_pos, and_l, and_r, and_i, eq→eqb, nan-fits, inf-fits, neg-fits, round-fits, round_is}
use Rattle.std.specs.Float.Ieee.Order.{drop, kept, round_mono}
use Rattle.std.specs.Float.Ieee.Scale.{round_same, overflow}
use Rattle.std.specs.Float.Ieee.Exact.{HasValue}
use Rattle.ieee.specs.Nearest.{rnd, near_is}
use Rattle.ieee.specs.Value.{mag, hi, lo, Num, shape, hi_of, lo_of, hi_fix, finite_of, hi_under}
use Rattle.ieee.specs.Order.{or_l, or_r, or_split, sum_test, num_between, le→value, le_test}
use Rattle.ieee.specs.Rounding.{prec_pos, round_at, round_neg, Between}
use Rattle.ieee.proofs.Zero.{unique, plus_plain, round_zero}
use Rattle.ieee.specs.Conversion.{rounded}

pub rounded_fits : (f : Format) (x : Float) → T (fits f (rounded f x))
unfolding rounded
rounded_fits f nan = nan-fits f
rounded_fits f (inf s) = inf-fits f s
rounded_fits f (fin s m e) = round-fits f s (m * up e) (down e)

-- by any fraction a / b that is its magnitude
pub rounded_value : (f : Format) (x : Float) (s : Bool) (a b : ℕ) → 0 < b → HasValue x s a b → rounded f x ≡ round f s a b
unfolding rounded
rounded_value f nan s a b B v = absurd v
rounded_value f (inf t) s a b B v = absurd v
rounded_value f (fin t m e) s a b B v = ap (λ (r : Bool). round f r (m * up e) (down e)) v.0 ∙ round_same f s (m * up e) (down e) a b (down_pos e) B v.1

-- ---- what the format holds stays
plus_self : (f : Format) (m : ℕ) (e : ℤ) → T (fits f (fin false m e)) → round f false (m * up e) (down e) ≡ fin false m e
unfolding hi lo
plus_self f m e t =
    let x = fin false m e in
    let n = mag f x in
    let r : rnd (prec f) (m * up e * 2 ^ low f) (down e) ≡ n = ap (λ (a : ℕ). rnd (prec f) a (down e)) (shape f false m e t).value ∙ near_is (prec f) n (down e) (prec_pos f) (down_pos e) ∙ hi_fix f x t in
    let z = round f false (m * up e) (down e) in
    let v = subst (λ (a : ℕ). HasValue z false a (2 ^ low f)) r (round_at f false (m * up e) (down e) (subst (λ (a : ℕ). a < overflow f) (sym r) (hi_under f x t))) in
    let p : Num f z = record { fin_x = finite_of z false n (2 ^ low f) v; fits_x = round-fits f false (m * up e) (down e) } in
    let q : Num f x = record { fin_x = tt; fits_x = t } in
    unique f z x p q (plus_plain f (m * up e) (down e)) tt (hi_of f z false n v) (lo_of f z false n v)

pub rounded_self : (f : Format) (x : Float) → T (fits f x) → rounded f x ≡ x
unfolding rounded neg
rounded_self f nan t = refl
rounded_self f (inf s) t = refl
rounded_self f (fin false m e) t = plus_self f m e t
rounded_self f (fin true m e) t = round_neg f false (m * up e) (down e) ∙ ap neg (plus_self f m e (neg-fits f (fin true m e) t))

-- ---- order of floats, by their signs
eqb_turn : (a b : ℕ) → T (eqb a b) → T (eqb b a)
eqb_turn a b t = eq→eqb {a = b} {b = a} (sym (eqb→eq a b t))

swapped : (k : Bool) (a b : ℕ) → T (k || (eqb a b && true)) → T (k || (eqb b a && true))
swapped k a b t = elim (or_split k (eqb a b && true) t) [
  | inl l ↦ or_l k (eqb b a && true) l
  | inr q ↦ or_r k (eqb b a && true) (and_i (eqb b a) true (eqb_turn a b (and_l (eqb a b) true q)) tt)
]

nothing : (a b : ℕ) → T (eqb b a && eqb b 0) → T (eqb a b && eqb a 0)
nothing a b t =
    let e = eqb→eq b a (and_l (eqb b a) (eqb b 0) t) in
    let o = eqb→eq b 0 (and_r (eqb b a) (eqb b 0) t) in
    and_i (eqb a b) (eqb a 0) (eq→eqb {a = a} {b = b} (sym e)) (eq→eqb {a = a} {b = 0} (sym e ∙ o))

pub le_neg : (x y : Float) → T (le y x) → T (le (neg x) (neg y))
unfolding le neg
le_neg nan nan t = t
le_neg nan (inf u) t = t
le_neg nan (fin u n d) t = t
le_neg (inf s) nan t = absurd t
le_neg (inf true) (inf true) t = tt
le_neg (inf true) (inf false) t = absurd t
le_neg (inf false) (inf true) t = tt
le_neg (inf false) (inf false) t = tt
le_neg (inf true) (fin u n d) t = absurd t
le_neg (inf false) (fin u n d) t = tt
le_neg (fin s m e) nan t = absurd t
le_neg (fin s m e) (inf true) t = tt
le_neg (fin s m e) (inf false) t = absurd t
le_neg (fin false m e) (fin false n d) t = swapped (ltb (n * up d * down e) (m * up e * down d)) (n * up d * down e) (m * up e * down d) t
le_neg (fin false m e) (fin true n d) t = sum_test (m * up e * down d) (n * up d * down e)
le_neg (fin true m e) (fin false n d) t = nothing (m * up e * down d) (n * up d * down e) t
le_neg (fin true m e) (fin true n d) t = swapped (ltb (m * up e * down d) (n * up d * down e)) (n * up d * down e) (m * up e * down d) t

-- not negative, and no NaN
abbrev plus : Float → Bool
plus nan = false
plus (inf s) = not s
plus (fin s m e) = not s

odd_plus : (d q k l : ℕ) → T (plus (odd d false q k l))
unfolding odd
odd_plus d zero k l = tt
odd_plus d (suc q) k l = tt

cond_plus : (b : Bool) (x y : Float) → T (plus x) → T (plus y) → T (plus (cond b x y))
cond_plus true x y p q = p
cond_plus false x y p q = q

units_plus : (f : Format) (q k : ℕ) → T (plus (units f false q k))
unfolding units
units_plus f q k = cond_plus (ltb (q * 2 ^ k) (overflow f)) (odd (suc (prec f)) false q k (low f)) (inf false) (odd_plus (suc (prec f)) q k (low f)) tt

round_plus : (f : Format) (a c : ℕ) → T (plus (round f false a c))
round_plus f a c = subst (λ (z : Float). T (plus z)) (sym (round_is f false a c)) (units_plus f (kept (prec f) (a * 2 ^ low f) c) (drop (prec f) (a * 2 ^ low f) c))

minus_le_plus : (x y : Float) → T (plus x) → T (plus y) → T (le (neg x) y)
unfolding le neg
minus_le_plus nan y p q = absurd p
minus_le_plus (inf true) y p q = absurd p
minus_le_plus (fin true m e) y p q = absurd p
minus_le_plus (inf false) nan p q = absurd q
minus_le_plus (inf false) (inf true) p q = absurd q
minus_le_plus (inf false) (inf false) p q = tt
minus_le_plus (inf false) (fin u n d) p q = tt
minus_le_plus (fin false m e) nan p q = absurd q
minus_le_plus (fin false m e) (inf true) p q = absurd q
minus_le_plus (fin false m e) (inf false) p q = tt
minus_le_plus (fin false m e) (fin true n d) p q = absurd q
minus_le_plus (fin false m e) (fin false n d) p q = sum_test (m * up e * down d) (n * up d * down e)

-- a `round` is above -infinity and below +infinity
plus_le_inf : (x : Float) → T (plus x) → T (le x (inf false))
unfolding le
plus_le_inf nan p = absurd p
plus_le_inf (inf true) p = absurd p
plus_le_inf (inf false) p = tt
plus_le_inf (fin s m e) p = tt

inf_le_plus : (x : Float) → T (plus x) → T (le (inf true) x)
unfolding le
inf_le_plus nan p = absurd p
inf_le_plus (inf true) p = tt
inf_le_plus (inf false) p = tt
inf_le_plus (fin s m e) p = tt

round_low : (f : Format) (s : Bool) (a c : ℕ) → T (le (inf true) (round f s a c))
unfolding neg
round_low f false a c = inf_le_plus (round f false a c) (round_plus f a c)
round_low f true a c =
    subst (λ (z : Float). T (le (inf true) z)) (sym (round_neg f false a c)) (le_neg (inf false) (round f false a c) (plus_le_inf (round f false a c) (round_plus f a c)))

round_high : (f : Format) (s : Bool) (a c : ℕ) → T (le (round f s a c) (inf false))
round_high f false a c = plus_le_inf (round f false a c) (round_plus f a c)
round_high f true a c =
    subst (λ (z : Float). T (le z (inf false))) (sym (round_neg f false a c)) (minus_le_plus (round f false a c) (inf false) (round_plus f a c) tt)

-- ---- the order is kept
no_part : (m k d : ℕ) → 0 < d → m * k * d ≡ 0 → m * k ≡ 0
no_part m k d D e = elim (eq-zero-or-pos (m * k)) [ inl z ↦ z | inr p ↦ absurd (lt_irrefl 0 (subst (λ (x : ℕ). 0 < x) e (mul-pos p D))) ]

zeros : (f : Format) (a b c d : ℕ) → 0 < c → 0 < d → a ≡ 0 → b ≡ 0 → T (le (round f false a c) (round f true b d))
unfolding le
zeros f a b c d C D p q =
    subst (λ (z : Float). T (le z (round f true b d))) (sym (ap (λ (n : ℕ). round f false n c) p ∙ round_zero f false c C))
    (subst (λ (z : Float). T (le (fin false 0 (pos 0)) z)) (sym (ap (λ (n : ℕ). round f true n d) q ∙ round_zero f true d D)) tt)

pub rounded_mono : (f : Format) (x y : Float) → T (le x y) → T (le (rounded f x) (rounded f y))
unfolding rounded le neg
rounded_mono f nan y t = absurd t
rounded_mono f (inf s) nan t = absurd t
rounded_mono f (inf s) (inf u) t = t
rounded_mono f (inf false) (fin u n d) t = absurd t
rounded_mono f (inf true) (fin u n d) t = round_low f u (n * up d) (down d)
rounded_mono f (fin s m e) nan t = absurd t
rounded_mono f (fin s m e) (inf true) t = absurd t
rounded_mono f (fin s m e) (inf false) t = round_high f s (m * up e) (down e)
rounded_mono f (fin false m e) (fin false n d) t =
    round_mono f (m * up e) (down e) (n * up d) (down d) (down_pos e) (down_pos d) (le_test (m * up e * down d) (n * up d * down e) t)
rounded_mono f (fin true m e) (fin false n d) t =
    subst (λ (z : Float). T (le z (round f false (n * up d) (down d)))) (sym (round_neg f false (m * up e) (down e)))
    (minus_le_plus (round f false (m * up e) (down e)) (round f false (n * up d) (down d)) (round_plus f (m * up e) (down e)) (round_plus f (n * up d) (down d)))
rounded_mono f (fin false m e) (fin true n d) t =
    let a = m * up e * down d in
    let b = n * up d * down e in
    let p = eqb→eq a b (and_l (eqb a b) (eqb a 0) t) in
    let o = eqb→eq a 0 (and_r (eqb a b) (eqb a 0) t) in
    zeros f (m * up e) (n * up d) (down e) (down d) (down_pos e) (down_pos d) (no_part m (up e) (down d) (down_pos d) o) (no_part n (up d) (down e) (down_pos e) (sym p ∙ o))
rounded_mono f (fin true m e) (fin true n d) t =
    subst (λ (z : Float). T (le z (round f true (n * up d) (down d)))) (sym (round_neg f false (m * up e) (down e)))
    (subst (λ (z : Float). T (le (neg (round f false (m * up e) (down e))) z)) (sym (round_neg f false (n * up d) (down d)))
    (le_neg (round f false (m * up e) (down e)) (round f false (n * up d) (down d))
    (round_mono f (n * up d) (down d) (m * up e) (down e) (down_pos d) (down_pos e)
    (le_test (n * up d * down e) (m * up e * down d) (swapped (ltb (n * up d * down e) (m * up e * down d)) (m * up e * down d) (n * up d * down e) t)))))

-- ---- between two values that the format holds
pub rounded_between : (f : Format) (c x d : Float) → Num f c → Num f d → T (le c x) → T (le x d) → Between f c (rounded f x) d
rounded_between f c x d p q h k =
    let a = subst (λ (z : Float). T (le z (rounded f x))) (rounded_self f c p.fits_x) (rounded_mono f c x h) in
    let b = subst (λ (z : Float). T (le (rounded f x) z)) (rounded_self f d q.fits_x) (rounded_mono f x d k) in
    let r = num_between p q (rounded_fits f x) a b in
    record { num = r; from = le→value f c (rounded f x) p r a; to = le→value f (rounded f x) d r q b }
