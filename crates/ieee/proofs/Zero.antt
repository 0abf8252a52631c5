-- When equal values are equal floats: two finite floats of one format with the same value are the same float, unless one is -0 and the other +0 (`unique`).
-- `plain x`: x is not -0. A sum is -0 only where both operands are (`add_plain`). x + 0 is x (`add_neutral`), and x - x is +0 (`sub_self`).
use Rattle.std.specs.Prelude.{◌≡◌, refl, Bool, not, ◌&&◌, cond, ℕ, zero, suc, ◌+◌, ◌-◌, ◌*◌, ◌/◌, ◌%◌, ◌^◌, ◌≤◌, ◌<◌, ℤ, pos, negsuc, leb, ltb, eqb}
use Rattle.std.proofs.Common.{sym, ap, ◌∙◌, true≢false, zero-le, le_trans, le_of_eq, le_antisymm, lt_irrefl, lt_of_not-le, zero-lt-suc, mul_assoc, mul_left_comm, mul-one, one-mul, zero-mul, mul-pos, pow-suc, add-zero, arith, eqb→eq, ltb→lt, pow_pos}
use Rattle.std.proofs.Math.Path.{subst}
use Rattle.std.proofs.Math.Bool.{true, false}
use Rattle.std.specs.Bool.{beq}
use Rattle.std.proofs.Math.Nat.{zero-div, pow-succ', eq_of_mul-eq-mul_right}
use Rattle.std.proofs.Math.Dec.{T}
use lib.Ieee.{Float, nan, inf, fin, Format, prec, emax, low, up, down, fits, odd, units, round, sum, add, sub, neg, binary32, binary64}
use Rattle.std.specs.Float.Ieee.Fits.{up_pos, down_pos, and_l, round_is}
use Rattle.std.specs.Float.Ieee.Exact.{HasValue, odd_sign}
use Rattle.std.specs.Float.Ieee.Order.{drop, kept}
use Rattle.std.specs.Float.Ieee.Scale.{overflow, round_same}
use Rattle.ieee.specs.Nearest.{near, near_is, near_mono, near_fix}
use Rattle.ieee.specs.Value.{pow_cancel, mag, hi, lo, Num, shape, num_neg}
use Rattle.ieee.specs.Order.{left_units, right_units, Cross, crossed}
use Rattle.ieee.specs.Rounding.{prec_pos, fine_between, rounds_self}
use Rattle.ieee.proofs.Sums.{round_add, round_sub, round_bus, add_rounds}

abbrev pub plain : Float → Bool
plain nan = true
plain (inf s) = true
plain (fin s m e) = not (s && eqb m 0)

-- ---- an odd number times a power of two is so in one way (as in `lib.Ieee.Back`, where it is private)
even_odd : (m t : ℕ) → m % 2 ≡ 1 → m ≡ 2 * t → ⊥
even_odd m t o h = omega arith

odd_pow : (m n a b : ℕ) → m % 2 ≡ 1 → n % 2 ≡ 1 → m * 2 ^ a ≡ n * 2 ^ b → m ≡ n
odd_pow m n zero zero o p h = sym (mul-one m) ∙ h ∙ mul-one n
odd_pow m n zero (suc b) o p h = absurd (even_odd m (n * 2 ^ b) o (sym (mul-one m) ∙ h ∙ ap (λ (x : ℕ). n * x) (pow-succ' 2 b) ∙ mul_left_comm n 2 (2 ^ b)))
odd_pow m n (suc a) zero o p h = absurd (even_odd n (m * 2 ^ a) p (sym (mul-one n) ∙ sym h ∙ ap (λ (x : ℕ). m * x) (pow-succ' 2 a) ∙ mul_left_comm m 2 (2 ^ a)))
odd_pow m n (suc a) (suc b) o p h =
    odd_pow m n a b o p (eq_of_mul-eq-mul_right 2 (zero-lt-suc 1) (m * 2 ^ a) (n * 2 ^ b)
    (mul_assoc m (2 ^ a) 2 ∙ ap (λ (x : ℕ). m * x) (sym (pow-suc 2 a)) ∙ h ∙ ap (λ (x : ℕ). n * x) (pow-suc 2 b) ∙ sym (mul_assoc n (2 ^ b) 2)))

is_odd : (f : Format) (s : Bool) (m : ℕ) (e : ℤ) → T (fits f (fin s (suc m) e)) → suc m % 2 ≡ 1
unfolding fits
is_odd f s m e t =
    eqb→eq (suc m % 2) 1 (and_l (eqb (suc m % 2) 1) (ltb (suc m) (2 ^ prec f)) (and_l (eqb (suc m % 2) 1 && ltb (suc m) (2 ^ prec f)) (leb (down e) (2 ^ low f))
    (and_l (eqb (suc m % 2) 1 && ltb (suc m) (2 ^ prec f) && leb (down e) (2 ^ low f)) (ltb (suc m * up e) (2 ^ suc (emax f) * down e)) t)))

-- ---- an exponent is given by up / down
pow_inj : (i j : ℕ) → 2 ^ i ≡ 2 ^ j → i ≡ j
pow_inj i j e = le_antisymm (pow_cancel i j (le_of_eq e)) (pow_cancel j i (le_of_eq (sym e)))

two_up : (p q : ℕ) → 0 < p → 0 < q → p * (2 * q) ≡ 1 → ⊥
two_up p q P Q e = omega (arith, mul-pos P Q)

exponent : (e d : ℤ) → up e * down d ≡ up d * down e → e ≡ d
exponent (pos k) (pos l) h = ap pos (pow_inj k l (sym (mul-one (2 ^ k)) ∙ h ∙ mul-one (2 ^ l)))
exponent (pos k) (negsuc l) h = absurd (two_up (2 ^ k) (2 ^ l) (pow_pos k) (pow_pos l) (ap (λ (x : ℕ). 2 ^ k * x) (sym (pow-succ' 2 l)) ∙ h))
exponent (negsuc k) (pos l) h = absurd (two_up (2 ^ l) (2 ^ k) (pow_pos l) (pow_pos k) (ap (λ (x : ℕ). 2 ^ l * x) (sym (pow-succ' 2 k)) ∙ sym h))
exponent (negsuc k) (negsuc l) h = ap negsuc (down_suc k l (pow_inj (suc k) (suc l) (sym (one-mul (2 ^ suc k)) ∙ sym h ∙ one-mul (2 ^ suc l))))
  where
    down_suc : (k l : ℕ) → suc k ≡ suc l → k ≡ l
    down_suc k l e = omega arith

flat_up : (p : ℕ) → 0 < p → 2 * p ≡ 1 → ⊥
flat_up p h e = omega arith

zero_exp : (f : Format) (s : Bool) (e : ℤ) → T (fits f (fin s zero e)) → e ≡ pos 0
unfolding fits
zero_exp f s e t = flat e (eqb→eq (up e * down e) 1 t)
  where
    flat : (e : ℤ) → up e * down e ≡ 1 → e ≡ pos 0
    flat (pos zero) h = refl
    flat (pos (suc k)) h = absurd (flat_up (2 ^ k) (pow_pos k) (sym (pow-succ' 2 k) ∙ sym (mul-one (2 ^ suc k)) ∙ h))
    flat (negsuc k) h = absurd (flat_up (2 ^ k) (pow_pos k) (sym (pow-succ' 2 k) ∙ sym (one-mul (2 ^ suc k)) ∙ h))

-- ---- the same magnitude
mag_pos : (f : Format) (s : Bool) (m : ℕ) (e : ℤ) → T (fits f (fin s (suc m) e)) → mag f (fin s (suc m) e) ≡ 0 → ⊥
mag_pos f s m e t z =
    lt_irrefl 0 (subst (λ (x : ℕ). 0 < x) ((shape f s (suc m) e t).value ∙ ap (λ (x : ℕ). x * down e) z ∙ zero-mul (down e)) (mul-pos (mul-pos (zero-lt-suc m) (up_pos e)) (pow_pos (low f))))

mag_zero : (f : Format) (s : Bool) (e : ℤ) → mag f (fin s 0 e) ≡ 0
unfolding mag
mag_zero f s e = ap (λ (x : ℕ). x * 2 ^ low f / down e) (zero-mul (up e)) ∙ ap (λ (x : ℕ). x / down e) (zero-mul (2 ^ low f)) ∙ zero-div (down e)

same_mag : (f : Format) (s : Bool) (m : ℕ) (e : ℤ) (t : Bool) (n : ℕ) (d : ℤ) → T (fits f (fin s m e)) → T (fits f (fin t n d)) → mag f (fin s m e) ≡ mag f (fin t n d) → (m ≡ n) × (e ≡ d)
same_mag f s zero e t zero d p q h = (refl, zero_exp f s e p ∙ sym (zero_exp f t d q))
same_mag f s zero e t (suc n) d p q h = absurd (mag_pos f t n d q (sym h ∙ mag_zero f s e))
same_mag f s (suc m) e t zero d p q h = absurd (mag_pos f s m e p (h ∙ mag_zero f t d))
same_mag f s (suc m) e t (suc n) d p q h =
    let a = shape f s (suc m) e p in
    let b = shape f t (suc n) d q in
    let A = mag f (fin s (suc m) e) in
    let B = mag f (fin t (suc n) d) in
    let L = 2 ^ low f in
    let c : suc m ≡ suc n = odd_pow (suc m) (suc n) a.power b.power (is_odd f s m e p) (is_odd f t n d q) (sym a.is ∙ h ∙ b.is) in
    let u : suc m * up e * down d * L ≡ A * (down e * down d) = left_units f (suc m) A e d a.value in
    let v : suc n * up d * down e * L ≡ B * (down e * down d) = right_units f (suc n) B d e b.value in
    let w : suc m * up e * down d * L ≡ suc m * up d * down e * L = u ∙ ap (λ (x : ℕ). x * (down e * down d)) h ∙ sym v ∙ ap (λ (x : ℕ). x * up d * down e * L) (sym c) in
    (c, exponent e d (eq_of_mul-eq-mul_right (suc m * L) (mul-pos (zero-lt-suc m) (pow_pos (low f))) (up e * down d) (up d * down e) (out (suc m) (up e) (down d) L ∙ w ∙ sym (out (suc m) (up d) (down e) L))))
  where
    out : (m a b l : ℕ) → a * b * (m * l) ≡ m * a * b * l
    out m a b l = omega arith

-- ---- the same value
not_plain : (f : Format) (m : ℕ) (e : ℤ) → T (fits f (fin true m e)) → T (plain (fin true m e)) → mag f (fin true m e) ≡ 0 → ⊥
not_plain f zero e t p z = p
not_plain f (suc m) e t p z = mag_pos f true m e t z

pub unique : (f : Format) (x y : Float) → Num f x → Num f y → T (plain x) → T (plain y) → hi f x ≡ hi f y → lo f x ≡ lo f y → x ≡ y
unfolding hi lo
unique f nan y p q a b h k = absurd p.fin_x
unique f (inf s) y p q a b h k = absurd p.fin_x
unique f (fin s m e) nan p q a b h k = absurd q.fin_x
unique f (fin s m e) (inf t) p q a b h k = absurd q.fin_x
unique f (fin false m e) (fin false n d) p q a b h k = let r = same_mag f false m e false n d p.fits_x q.fits_x h in λ i. fin false (r.0 i) (r.1 i)
unique f (fin true m e) (fin true n d) p q a b h k = let r = same_mag f true m e true n d p.fits_x q.fits_x k in λ i. fin true (r.0 i) (r.1 i)
unique f (fin false m e) (fin true n d) p q a b h k = absurd (not_plain f n d q.fits_x b (sym k))
unique f (fin true m e) (fin false n d) p q a b h k = absurd (not_plain f m e p.fits_x a k)

-- ---- what is not zero is plain
zero_clash : (m : ℕ) (e : ℤ) (n c : ℕ) → m * up e * c ≡ n * down e → 0 < n → m ≡ 0 → ⊥
zero_clash m e n c v h z = lt_irrefl 0 (subst (λ (x : ℕ). 0 < x) (sym v ∙ ap (λ (x : ℕ). x * up e * c) z ∙ ap (λ (x : ℕ). x * c) (zero-mul (up e)) ∙ zero-mul c) (mul-pos h (down_pos e)))

pub value_plain : (x : Float) (s : Bool) (n c : ℕ) → HasValue x s n c → 0 < n → T (plain x)
value_plain nan s n c v h = absurd v
value_plain (inf t) s n c v h = absurd v
value_plain (fin false m e) s n c v h = tt
value_plain (fin true m e) s n c v h = go (eqb m 0) (eqb→eq m 0)
  where
    go : (b : Bool) → (T b → m ≡ 0) → T (not b)
    go true z = absurd (zero_clash m e n c v.1 h (z tt))
    go false z = tt

units_plain : (f : Format) (s : Bool) (q k : ℕ) → 0 < q * 2 ^ k → T (plain (units f s q k))
unfolding units
units_plain f s q k h = go (ltb (q * 2 ^ k) (overflow f))
  where
    go : (b : Bool) → T (plain (cond b (odd (suc (prec f)) s q k (low f)) (inf s)))
    go true = value_plain (odd (suc (prec f)) s q k (low f)) s (q * 2 ^ k) (2 ^ low f) (odd_sign (suc (prec f)) s q k (low f)) h
    go false = tt

near_pos : (f : Format) (n : ℕ) → 0 < n → 0 < near (prec f) n
near_pos f n h = le_trans (le_of_eq (sym (near_fix (prec f) 1 0 (prec_pos f) (pow_pos (prec f))))) (near_mono (prec f) 1 n (prec_pos f) h)

round_plain : (f : Format) (s : Bool) (n : ℕ) → 0 < n → T (plain (round f s n (2 ^ low f)))
round_plain f s n h =
    let p = prec f in
    let L = 2 ^ low f in
    subst (λ (z : Float). T (plain z)) (sym (round_is f s n L))
    (units_plain f s (kept p (n * L) L) (drop p (n * L) L) (subst (λ (x : ℕ). 0 < x) (sym (near_is p n L (prec_pos f) (pow_pos (low f)))) (near_pos f n h)))

sign_plain : (x : Float) (n c : ℕ) → HasValue x false n c → T (plain x)
sign_plain nan n c v = absurd v
sign_plain (inf t) n c v = absurd v
sign_plain (fin false m e) n c v = tt
sign_plain (fin true m e) n c v = absurd (true≢false v.0)

plus_units : (f : Format) (q k : ℕ) → T (plain (units f false q k))
unfolding units
plus_units f q k = pick (ltb (q * 2 ^ k) (overflow f))
  where
    pick : (b : Bool) → T (plain (cond b (odd (suc (prec f)) false q k (low f)) (inf false)))
    pick true = sign_plain (odd (suc (prec f)) false q k (low f)) (q * 2 ^ k) (2 ^ low f) (odd_sign (suc (prec f)) false q k (low f))
    pick false = tt

pub plus_plain : (f : Format) (a c : ℕ) → T (plain (round f false a c))
plus_plain f a c = subst (λ (z : Float). T (plain z)) (sym (round_is f false a c)) (plus_units f (kept (prec f) (a * 2 ^ low f) c) (drop (prec f) (a * 2 ^ low f) c))

-- ---- the sum of a / c and b / c, which are A and B units
module _ (f : Format) (a b c A B : ℕ) (C : 0 < c) (p : a * 2 ^ low f ≡ A * c) (q : b * 2 ^ low f ≡ B * c) where
  x : Cross a b A B
  x = crossed a b A B c (2 ^ low f) C (pow_pos (low f)) p q

  plain_tt : 0 < A → T (plain (sum f true a true b c))
  unfolding sum
  plain_tt h = subst (λ (z : Float). T (plain z)) (round_add f a b c A B C p q true) (round_plain f true (A + B) (omega arith))

  plain_ft : T (plain (sum f false a true b c))
  unfolding sum
  plain_ft = go (ltb a b) (λ (t : T (ltb a b)). x.lt_to (ltb→lt a b t))
    where
      go : (k : Bool) → (T k → A < B) → T (plain (cond k (round f true (b - a) c) (round f false (a - b) c)))
      go true h = let w = h tt in subst (λ (z : Float). T (plain z)) (round_bus f a b c A B C p q true) (round_plain f true (B - A) (omega arith))
      go false h = plus_plain f (a - b) c

  plain_tf : T (plain (sum f true a false b c))
  unfolding sum
  plain_tf = go (ltb a b)
    where
      end : (k : Bool) → (T k → B < A) → T (plain (round f k (a - b) c))
      end true h = let w = h tt in subst (λ (z : Float). T (plain z)) (round_sub f a b c A B C p q true) (round_plain f true (A - B) (omega arith))
      end false h = plus_plain f (a - b) c

      go : (k : Bool) → T (plain (cond k (round f false (b - a) c) (round f (ltb b a) (a - b) c)))
      go true = plus_plain f (b - a) c
      go false = end (ltb b a) (λ (t : T (ltb b a)). x.gt_to (ltb→lt b a t))

mag_above : (f : Format) (m : ℕ) (e : ℤ) → T (fits f (fin true m e)) → T (plain (fin true m e)) → 0 < mag f (fin true m e)
mag_above f m e t p = lt_of_not-le (λ (g : mag f (fin true m e) ≤ 0). not_plain f m e t p (le_antisymm g zero-le))

pub add_plain : (f : Format) (x y : Float) → Num f x → Num f y → T (plain x) → T (plain (add f x y))
unfolding add
add_plain f nan y p q h = tt
add_plain f (inf s) nan p q h = tt
add_plain f (inf s) (inf u) p q h = absurd p.fin_x
add_plain f (inf s) (fin t n d) p q h = tt
add_plain f (fin s m e) nan p q h = tt
add_plain f (fin s m e) (inf u) p q h = tt
add_plain f (fin false m e) (fin false n d) p q h = unfold sum in plus_plain f (m * up e * down d + n * up d * down e) (down e * down d)
add_plain f (fin false m e) (fin true n d) p q h =
    plain_ft f (m * up e * down d) (n * up d * down e) (down e * down d) (mag f (fin false m e)) (mag f (fin true n d)) (mul-pos (down_pos e) (down_pos d))
    (left_units f m (mag f (fin false m e)) e d (shape f false m e p.fits_x).value) (right_units f n (mag f (fin true n d)) d e (shape f true n d q.fits_x).value)
add_plain f (fin true m e) (fin false n d) p q h =
    plain_tf f (m * up e * down d) (n * up d * down e) (down e * down d) (mag f (fin true m e)) (mag f (fin false n d)) (mul-pos (down_pos e) (down_pos d))
    (left_units f m (mag f (fin true m e)) e d (shape f true m e p.fits_x).value) (right_units f n (mag f (fin false n d)) d e (shape f false n d q.fits_x).value)
add_plain f (fin true m e) (fin true n d) p q h =
    plain_tt f (m * up e * down d) (n * up d * down e) (down e * down d) (mag f (fin true m e)) (mag f (fin true n d)) (mul-pos (down_pos e) (down_pos d))
    (left_units f m (mag f (fin true m e)) e d (shape f true m e p.fits_x).value) (right_units f n (mag f (fin true n d)) d e (shape f true n d q.fits_x).value)
    (mag_above f m e p.fits_x h)

pub sub_plain : (f : Format) (x y : Float) → Num f x → Num f y → T (plain x) → T (plain (sub f x y))
unfolding sub
sub_plain f x y p q h = add_plain f x (neg y) p (num_neg q) h

-- ---- a zero added
pub add_neutral : (f : Format) (x y : Float) → Num f x → Num f y → T (plain x) → hi f y ≡ 0 → lo f y ≡ 0 → add f x y ≡ x
add_neutral f x y p q h a b =
    let P : hi f x + hi f y ≡ hi f x = ap (λ (n : ℕ). hi f x + n) a ∙ add-zero (hi f x) in
    let N : lo f x + lo f y ≡ lo f x = ap (λ (n : ℕ). lo f x + n) b ∙ add-zero (lo f x) in
    let r = add_rounds f x y p q (fine_between (hi f x + hi f y) (lo f x + lo f y) p p (omega arith) (omega arith)) in
    let i = rounds_self p in
    unique f (add f x y) x r.num p (add_plain f x y p q h) h
    (r.hi_is ∙ ap (λ (n : ℕ). near (prec f) (n - (lo f x + lo f y))) P ∙ ap (λ (n : ℕ). near (prec f) (hi f x - n)) N ∙ sym i.hi_is)
    (r.lo_is ∙ ap (λ (n : ℕ). near (prec f) (n - (hi f x + hi f y))) N ∙ ap (λ (n : ℕ). near (prec f) (lo f x - n)) P ∙ sym i.lo_is)

-- ---- x - x
over_one : (f : Format) (s : Bool) → round f s 0 1 ≡ fin s 0 (pos 0)
unfolding round
over_one binary32 s = refl
over_one binary64 s = refl

pub round_zero : (f : Format) (s : Bool) (c : ℕ) → 0 < c → round f s 0 c ≡ fin s 0 (pos 0)
round_zero f s c C = round_same f s 0 c 0 1 C (zero-lt-suc 0) (sym (zero-mul c)) ∙ over_one f s

sum_self : (f : Format) (s : Bool) (a c : ℕ) → 0 < c → sum f s a (not s) a c ≡ fin false 0 (pos 0)
unfolding sum
sum_self f s a c C = go s (ltb a a) (ltb→lt a a)
  where
    rest : round f false (a - a) c ≡ fin false 0 (pos 0)
    rest = ap (λ (n : ℕ). round f false n c) (omega arith) ∙ round_zero f false c C

    go : (s t : Bool) → (T t → a < a) → cond (beq s (not s)) (round f s (a + a) c) (cond t (round f (not s) (a - a) c) (round f (s && t) (a - a) c)) ≡ fin false 0 (pos 0)
    go false true h = absurd (lt_irrefl a (h tt))
    go true true h = absurd (lt_irrefl a (h tt))
    go false false h = rest
    go true false h = rest

pub sub_self : (f : Format) (x : Float) → Num f x → sub f x x ≡ fin false 0 (pos 0)
unfolding sub add neg
sub_self f nan p = absurd p.fin_x
sub_self f (inf s) p = absurd p.fin_x
sub_self f (fin s m e) p = sum_self f s (m * up e * down e) (down e * down e) (mul-pos (down_pos e) (down_pos e))
