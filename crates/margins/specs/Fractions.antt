-- The order of finite floats, whatever their digits, as that of fractions: `le x y` says (above x - below x) / under x ≤ (above y - below y) / under y (`le→order`, `order→le`).
-- It goes through (`le_through`), and a product with a constant that is not negative keeps it (`mul_keeps`). So a received part need not fit its format here.
--
use Rattle.std.specs.Prelude.{◌≡◌, refl, true, false, ◌&&◌, ℕ, suc, ◌+◌, ◌*◌, ◌^◌, ◌≤◌, ◌<◌, ℤ, pos, negsuc, T, eqb, Float}
use Rattle.std.proofs.Common.{sym, ap, ◌∙◌, mul-one, one-mul, suc-add, mul-le-mul_right, le_of_mul-le-mul_right, arith, eqb→eq, pow-add}
use Rattle.std.specs.Float.{nan, inf, fin, Format}
use Rattle.std.specs.Float.Ieee.{up, down, round, mul, le}
use Rattle.std.specs.Float.Ieee.Fits.{down_pos, and_l, and_r, and_i, eq→eqb}
use Rattle.std.specs.Float.Ieee.Scale.{finite}
use Rattle.ieee.specs.Order.{sum_test, of_le, lt_or}
use Rattle.ieee.specs.Conversion.{rounded}
use Rattle.ieee.proofs.ConversionLaws.{rounded_mono}

-- ---- a finite float is (above - below) / under, and above or below is 0
abbrev pub above : Float → ℕ
above nan = 0
above (inf s) = 0
above (fin false m e) = m * up e
above (fin true m e) = 0

abbrev pub below : Float → ℕ
below nan = 0
below (inf s) = 0
below (fin false m e) = 0
below (fin true m e) = m * up e

abbrev pub under : Float → ℕ
under nan = 1
under (inf s) = 1
under (fin s m e) = down e

under_pos : (x : Float) → T (finite x) → 0 < under x
under_pos nan t = absurd t
under_pos (inf s) t = absurd t
under_pos (fin s m e) t = down_pos e

abbrev pub Order : Float → Float → Type 0
Order x y = above x * under y + below y * under x ≤ above y * under x + below x * under y

-- ---- tests of two numbers
none : (a b : ℕ) → T (eqb a b && eqb a 0) → a + b ≤ 0
none a b t =
    let e : a ≡ b = eqb→eq a b (and_l (eqb a b) (eqb a 0) t) in
    let o : a ≡ 0 = eqb→eq a 0 (and_r (eqb a b) (eqb a 0) t) in
    omega arith

none_back : (a b : ℕ) → a + b ≤ 0 → T (eqb a b && eqb a 0)
none_back a b h = and_i (eqb a b) (eqb a 0) (eq→eqb {a = a} {b = b} (omega arith)) (eq→eqb {a = a} {b = 0} (omega arith))

-- ---- `le`
pad : (a b k l : ℕ) → a ≤ b → a + 0 * k ≤ b + 0 * l
pad a b k l h = omega arith

pad' : (a b k l : ℕ) → b ≤ a → 0 * k + b ≤ 0 * l + a
pad' a b k l h = omega arith

unpad : (a b k l : ℕ) → a + 0 * k ≤ b + 0 * l → a ≤ b
unpad a b k l h = omega arith

unpad' : (a b k l : ℕ) → 0 * k + b ≤ 0 * l + a → b ≤ a
unpad' a b k l h = omega arith

flat : (a b k l : ℕ) → a + b ≤ 0 → a + b ≤ 0 * k + 0 * l
flat a b k l h = omega arith

unflat : (a b k l : ℕ) → a + b ≤ 0 * k + 0 * l → a + b ≤ 0
unflat a b k l h = omega arith

wide : (a b k l : ℕ) → 0 * k + 0 * l ≤ a + b
wide a b k l = omega arith

pub le→order : (x y : Float) → T (finite x) → T (finite y) → T (le x y) → Order x y
unfolding le
le→order nan y p q t = absurd p
le→order (inf s) y p q t = absurd p
le→order (fin s m e) nan p q t = absurd q
le→order (fin s m e) (inf u) p q t = absurd q
le→order (fin false m e) (fin false n d) p q t =
    let a = m * up e * down d in
    let b = n * up d * down e in
    pad a b (down e) (down d) (lt_or a b (eqb a b && true) (λ (u : T (eqb a b && true)). eqb→eq a b (and_l (eqb a b) true u)) t)
le→order (fin false m e) (fin true n d) p q t = flat (m * up e * down d) (n * up d * down e) (down e) (down d) (none (m * up e * down d) (n * up d * down e) t)
le→order (fin true m e) (fin false n d) p q t = wide (n * up d * down e) (m * up e * down d) (down d) (down e)
le→order (fin true m e) (fin true n d) p q t =
    let a = m * up e * down d in
    let b = n * up d * down e in
    pad' a b (down d) (down e) (lt_or b a (eqb a b && true) (λ (u : T (eqb a b && true)). sym (eqb→eq a b (and_l (eqb a b) true u))) t)

pub order→le : (x y : Float) → T (finite x) → T (finite y) → Order x y → T (le x y)
unfolding le
order→le nan y p q h = absurd p
order→le (inf s) y p q h = absurd p
order→le (fin s m e) nan p q h = absurd q
order→le (fin s m e) (inf u) p q h = absurd q
order→le (fin false m e) (fin false n d) p q h =
    let a = m * up e * down d in
    let b = n * up d * down e in
    of_le a b (eqb a b && true) (λ (z : a ≡ b). and_i (eqb a b) true (eq→eqb z) tt) (unpad a b (down e) (down d) h)
order→le (fin false m e) (fin true n d) p q h = none_back (m * up e * down d) (n * up d * down e) (unflat (m * up e * down d) (n * up d * down e) (down e) (down d) h)
order→le (fin true m e) (fin false n d) p q h = sum_test (m * up e * down d) (n * up d * down e)
order→le (fin true m e) (fin true n d) p q h =
    let a = m * up e * down d in
    let b = n * up d * down e in
    of_le b a (eqb a b && true) (λ (z : b ≡ a). and_i (eqb a b) true (eq→eqb (sym z)) tt) (unpad' a b (down d) (down e) h)

-- ---- between
through : (P N D P' N' D' P'' N'' D'' : ℕ) → 0 < D' → P * D' + N' * D ≤ P' * D + N * D' → P' * D'' + N'' * D' ≤ P'' * D' + N' * D'' → P * D'' + N'' * D ≤ P'' * D + N * D''
through P N D P' N' D' P'' N'' D'' C h k = le_of_mul-le-mul_right (omega (arith, mul-le-mul_right D'' h, mul-le-mul_right D k)) C

pub le_through : (x y z : Float) → T (finite x) → T (finite y) → T (finite z) → T (le x y) → T (le y z) → T (le x z)
le_through x y z p q r h k =
    order→le x z p r (through (above x) (below x) (under x) (above y) (below y) (under y) (above z) (below z) (under z) (under_pos y q) (le→order x y p q h) (le→order y z q r k))

-- ---- the exact product with `fin false n d`, its exponent not reduced
abbrev over : ℤ → ℤ → ℤ
over (pos k) (pos l) = pos 0
over (pos k) (negsuc l) = negsuc l
over (negsuc k) (pos l) = negsuc k
over (negsuc k) (negsuc l) = negsuc (k + suc l)

up_over : (e d : ℤ) → up (over e d) ≡ 1
up_over (pos k) (pos l) = refl
up_over (pos k) (negsuc l) = refl
up_over (negsuc k) (pos l) = refl
up_over (negsuc k) (negsuc l) = refl

down_over : (e d : ℤ) → down (over e d) ≡ down e * down d
down_over (pos k) (pos l) = refl
down_over (pos k) (negsuc l) = sym (one-mul (2 ^ suc l))
down_over (negsuc k) (pos l) = sym (mul-one (2 ^ suc k))
down_over (negsuc k) (negsuc l) = ap (λ (j : ℕ). 2 ^ j) (sym (suc-add k (suc l))) ∙ pow-add 2 (suc k) (suc l)

abbrev product : Float → ℕ → ℤ → Float
product nan n d = nan
product (inf s) n d = inf s
product (fin s m e) n d = fin s (m * up e * (n * up d)) (over e d)

whole : (a : ℕ) (e d : ℤ) → a * up (over e d) ≡ a
whole a e d = ap (λ (k : ℕ). a * k) (up_over e d) ∙ mul-one a

mul_is : (f : Format) (x : Float) (n : ℕ) (d : ℤ) → T (finite x) → mul f x (fin false n d) ≡ rounded f (product x n d)
unfolding mul rounded
mul_is f nan n d p = absurd p
mul_is f (inf s) n d p = absurd p
mul_is f (fin true m e) n d p =
    sym (ap (λ (a : ℕ). round f true a (down (over e d))) (whole (m * up e * (n * up d)) e d) ∙ ap (λ (c : ℕ). round f true (m * up e * (n * up d)) c) (down_over e d))
mul_is f (fin false m e) n d p =
    sym (ap (λ (a : ℕ). round f false a (down (over e d))) (whole (m * up e * (n * up d)) e d) ∙ ap (λ (c : ℕ). round f false (m * up e * (n * up d)) c) (down_over e d))

product_above : (x : Float) (n : ℕ) (d : ℤ) → T (finite x) → above (product x n d) ≡ above x * (n * up d)
product_above nan n d p = absurd p
product_above (inf s) n d p = absurd p
product_above (fin true m e) n d p = omega arith
product_above (fin false m e) n d p = whole (m * up e * (n * up d)) e d

product_below : (x : Float) (n : ℕ) (d : ℤ) → T (finite x) → below (product x n d) ≡ below x * (n * up d)
product_below nan n d p = absurd p
product_below (inf s) n d p = absurd p
product_below (fin true m e) n d p = whole (m * up e * (n * up d)) e d
product_below (fin false m e) n d p = omega arith

product_under : (x : Float) (n : ℕ) (d : ℤ) → T (finite x) → under (product x n d) ≡ under x * down d
product_under nan n d p = absurd p
product_under (inf s) n d p = absurd p
product_under (fin s m e) n d p = down_over e d

product_finite : (x : Float) (n : ℕ) (d : ℤ) → T (finite x) → T (finite (product x n d))
product_finite nan n d p = p
product_finite (inf s) n d p = p
product_finite (fin s m e) n d p = tt

spread : (P N D P' N' D' k g : ℕ) → P * D' + N' * D ≤ P' * D + N * D' → P * k * (D' * g) + N' * k * (D * g) ≤ P' * k * (D * g) + N * k * (D' * g)
spread P N D P' N' D' k g h = omega (arith, mul-le-mul_right g (mul-le-mul_right k h))

written : (P N D P' N' D' p n d p' n' d' : ℕ) → P ≡ p → N ≡ n → D ≡ d → P' ≡ p' → N' ≡ n' → D' ≡ d' → p * d' + n' * d ≤ p' * d + n * d' → P * D' + N' * D ≤ P' * D + N * D'
written P N D P' N' D' p n d p' n' d' a b c a' b' c' h = rw (a, b, c, a', b', c') h

product_order : (x y : Float) (n : ℕ) (d : ℤ) → T (finite x) → T (finite y) → Order x y → Order (product x n d) (product y n d)
product_order x y n d p q h =
    let k = n * up d in
    let g = down d in
    written (above (product x n d)) (below (product x n d)) (under (product x n d)) (above (product y n d)) (below (product y n d)) (under (product y n d))
    (above x * k) (below x * k) (under x * g) (above y * k) (below y * k) (under y * g)
    (product_above x n d p) (product_below x n d p) (product_under x n d p) (product_above y n d q) (product_below y n d q) (product_under y n d q)
    (spread (above x) (below x) (under x) (above y) (below y) (under y) k g h)

pub mul_keeps : (f : Format) (x y : Float) (n : ℕ) (d : ℤ) → T (finite x) → T (finite y) → T (le x y) → T (le (mul f x (fin false n d)) (mul f y (fin false n d)))
mul_keeps f x y n d p q h =
    rw (mul_is f x n d p, mul_is f y n d q)
    (rounded_mono f (product x n d) (product y n d)
    (order→le (product x n d) (product y n d) (product_finite x n d p) (product_finite y n d q) (product_order x y n d p q (le→order x y p q h))))
