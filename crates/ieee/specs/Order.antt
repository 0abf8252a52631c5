-- Order: the tests `le`, `lt` and `eq` of two finite floats say the same as `Le`, `Lt` and `Same`, the order of their values, both ways (`le→value`, `value→le`, ..).
-- A test that failed says the order the other way round, and what lies between two finite floats is finite (`num_between`).
use Rattle.std.specs.Prelude.{◌≡◌, ◌⊎◌, Bool, true, false, not, ◌&&◌, ◌||◌, ℕ, suc, ◌+◌, ◌*◌, ◌^◌, ◌≤◌, ◌<◌, ℤ, T, ltb, eqb, Float}
use Rattle.std.proofs.Common.{sym, ap, ◌∙◌, subst, inl, inr, zero-le, le_of_eq, le_of_lt, lt_of_not-le, not-le_of_lt, eq-or-lt_of_le, lt_of_mul-lt-mul_right, le_of_mul-le-mul_right, mul-lt-mul_of_pos_right, mul-le-mul_right, mul_assoc, mul_comm, mul_right_comm, mul-pos, zero-mul, le_of_suc-le-suc, arith, ltb→lt, lt→ltb, eqb→eq, T_not, pow_pos}
use Rattle.std.specs.Float.{nan, inf, fin, Format}
use Rattle.std.specs.Float.Ieee.{low, up, down, fits, lt, le, eq}
use Rattle.std.specs.Float.Ieee.Fits.{down_pos, and_i, and_l, and_r, eq→eqb}
use Rattle.std.specs.Float.Ieee.Scale.{finite}
use Rattle.ieee.specs.Value.{mag, hi, lo, Num, shape}

-- the order of the values, as `omega` reads it
abbrev pub Le : Format → Float → Float → Type 0
Le f x y = hi f x + lo f y ≤ hi f y + lo f x

abbrev pub Lt : Format → Float → Float → Type 0
Lt f x y = hi f x + lo f y < hi f y + lo f x

abbrev pub Same : Format → Float → Float → Type 0
Same f x y = hi f x + lo f y ≡ hi f y + lo f x

-- ---- a / D and b / D are A / L and B / L, so they are in the same order
module _ (a b A B D L : ℕ) (DP : 0 < D) (LP : 0 < L) (p : a * L ≡ A * D) (q : b * L ≡ B * D) where
  lt_in : a < b → A < B
  lt_in h = lt_of_mul-lt-mul_right D (subst (λ (x : ℕ). x < B * D) p (subst (λ (x : ℕ). a * L < x) q (mul-lt-mul_of_pos_right h LP)))

  lt_out : A < B → a < b
  lt_out h = lt_of_mul-lt-mul_right L (subst (λ (x : ℕ). x < b * L) (sym p) (subst (λ (x : ℕ). A * D < x) (sym q) (mul-lt-mul_of_pos_right h DP)))

  le_in : a ≤ b → A ≤ B
  le_in h = le_of_mul-le-mul_right (subst (λ (x : ℕ). x ≤ B * D) p (subst (λ (x : ℕ). a * L ≤ x) q (mul-le-mul_right L h))) DP

  le_out : A ≤ B → a ≤ b
  le_out h = le_of_mul-le-mul_right (subst (λ (x : ℕ). x ≤ b * L) (sym p) (subst (λ (x : ℕ). A * D ≤ x) (sym q) (mul-le-mul_right D h))) LP

-- the two fractions of a comparison, or of a sum
pub left_units : (f : Format) (m A : ℕ) (e d : ℤ) → m * up e * 2 ^ low f ≡ A * down e → m * up e * down d * 2 ^ low f ≡ A * (down e * down d)
left_units f m A e d h = mul_right_comm (m * up e) (down d) (2 ^ low f) ∙ ap (λ (x : ℕ). x * down d) h ∙ mul_assoc A (down e) (down d)

pub right_units : (f : Format) (n B : ℕ) (d e : ℤ) → n * up d * 2 ^ low f ≡ B * down d → n * up d * down e * 2 ^ low f ≡ B * (down e * down d)
right_units f n B d e h = left_units f n B d e h ∙ ap (λ (x : ℕ). B * x) (mul_comm (down d) (down e))

pub record Cross (a b A B : ℕ) : Type 0 where
  pub lt_to : a < b → A < B
  pub lt_from : A < B → a < b
  pub le_to : a ≤ b → A ≤ B
  pub le_from : A ≤ B → a ≤ b
  pub gt_to : b < a → B < A
  pub gt_from : B < A → b < a
  pub ge_to : b ≤ a → B ≤ A
  pub ge_from : B ≤ A → b ≤ a
  pub z_to : a ≤ 0 → A ≤ 0
  pub z_from : A ≤ 0 → a ≤ 0

pub crossed : (a b A B D L : ℕ) → 0 < D → 0 < L → a * L ≡ A * D → b * L ≡ B * D → Cross a b A B
crossed a b A B D L P Q p q = record {
  lt_to = lt_in a b A B D L P Q p q;
  lt_from = lt_out a b A B D L P Q p q;
  le_to = le_in a b A B D L P Q p q;
  le_from = le_out a b A B D L P Q p q;
  gt_to = lt_in b a B A D L P Q q p;
  gt_from = lt_out b a B A D L P Q q p;
  ge_to = le_in b a B A D L P Q q p;
  ge_from = le_out b a B A D L P Q q p;
  z_to = le_in a 0 A 0 D L P Q p (zero-mul L ∙ sym (zero-mul D));
  z_from = le_out a 0 A 0 D L P Q p (zero-mul L ∙ sym (zero-mul D));
}

cross : (f : Format) (s : Bool) (m : ℕ) (e : ℤ) (t : Bool) (n : ℕ) (d : ℤ) → Num f (fin s m e) → Num f (fin t n d)
    → Cross (m * up e * down d) (n * up d * down e) (mag f (fin s m e)) (mag f (fin t n d))
cross f s m e t n d p q =
    crossed (m * up e * down d) (n * up d * down e) (mag f (fin s m e)) (mag f (fin t n d)) (down e * down d) (2 ^ low f)
    (mul-pos (down_pos e) (down_pos d)) (pow_pos (low f))
    (left_units f m (mag f (fin s m e)) e d (shape f s m e p.fits_x).value)
    (right_units f n (mag f (fin t n d)) d e (shape f t n d q.fits_x).value)

-- ---- tests
pub or_l : (a b : Bool) → T a → T (a || b)
or_l true b t = tt
or_l false b t = absurd t

pub or_r : (a b : Bool) → T b → T (a || b)
or_r true b t = tt
or_r false b t = t

pub or_split : (a b : Bool) → T (a || b) → T a ⊎ T b
or_split true b t = inl tt
or_split false b t = inr t

pub of_le : (a b : ℕ) (c : Bool) → (a ≡ b → T c) → a ≤ b → T (ltb a b || c)
of_le a b c k h = elim (eq-or-lt_of_le h) [ inl p ↦ or_r (ltb a b) c (k p) | inr q ↦ or_l (ltb a b) c (lt→ltb a b q) ]

pub lt_or : (a b : ℕ) (c : Bool) → (T c → a ≡ b) → T (ltb a b || c) → a ≤ b
lt_or a b c k t = elim (or_split (ltb a b) c t) [ inl u ↦ le_of_lt (ltb→lt a b u) | inr u ↦ le_of_eq (k u) ]

-- ---- the sum of a and b is 0 or above
pub sum_test : (a b : ℕ) → T (ltb 0 (a + b) || (eqb a b && eqb a 0))
sum_test a b = of_le 0 (a + b) (eqb a b && eqb a 0) (λ (e : 0 ≡ a + b). and_i (eqb a b) (eqb a 0) (eq→eqb {a = a} {b = b} (omega arith)) (eq→eqb {a = a} {b = 0} (omega arith))) zero-le

-- a and b are 0 where A and B are
none : (a b A B : ℕ) → Cross a b A B → A + B ≤ 0 → T (eqb a b && eqb a 0)
none a b A B c h =
    let u : a ≤ b = c.le_from (omega arith) in
    let v : b ≤ a = c.ge_from (omega arith) in
    let z : a ≤ 0 = c.z_from (omega arith) in
    and_i (eqb a b) (eqb a 0) (eq→eqb {a = a} {b = b} (omega arith)) (eq→eqb {a = a} {b = 0} (omega arith))

none_back : (a b A B : ℕ) → Cross a b A B → T (eqb a b && eqb a 0) → A + B ≤ 0
none_back a b A B c t =
    let e : a ≡ b = eqb→eq a b (and_l (eqb a b) (eqb a 0) t) in
    let o : a ≡ 0 = eqb→eq a 0 (and_r (eqb a b) (eqb a 0) t) in
    let u : A ≤ 0 = c.z_to (omega arith) in
    let v : B ≤ A = c.ge_to (omega arith) in
    omega arith

pos_in : (a b A B : ℕ) → Cross a b A B → 0 < a + b → 0 < B + A
pos_in a b A B c h = lt_of_not-le (λ (g : B + A ≤ 0). clash (none a b A B c (omega arith)))
  where
    clash : T (eqb a b && eqb a 0) → ⊥
    clash t =
        let e : a ≡ b = eqb→eq a b (and_l (eqb a b) (eqb a 0) t) in
        let o : a ≡ 0 = eqb→eq a 0 (and_r (eqb a b) (eqb a 0) t) in
        omega arith

pos_out : (a b A B : ℕ) → Cross a b A B → 0 < B + A → 0 < a + b
pos_out a b A B c h =
    lt_of_not-le (λ (g : a + b ≤ 0).
    let u : A ≤ 0 = c.z_to (omega arith) in
    let v : B ≤ A = c.ge_to (omega arith) in
    not-le_of_lt h (omega arith))

test_le : (a b : ℕ) → a ≤ b → T (ltb a b || (eqb a b && true))
test_le a b h = of_le a b (eqb a b && true) (λ (e : a ≡ b). and_i (eqb a b) true (eq→eqb e) tt) h

test_ge : (a b : ℕ) → b ≤ a → T (ltb b a || (eqb a b && true))
test_ge a b h = of_le b a (eqb a b && true) (λ (e : b ≡ a). and_i (eqb a b) true (eq→eqb (sym e)) tt) h

pub le_test : (a b : ℕ) → T (ltb a b || (eqb a b && true)) → a ≤ b
le_test a b t = lt_or a b (eqb a b && true) (λ (u : T (eqb a b && true)). eqb→eq a b (and_l (eqb a b) true u)) t

ge_test : (a b : ℕ) → T (ltb b a || (eqb a b && true)) → b ≤ a
ge_test a b t = lt_or b a (eqb a b && true) (λ (u : T (eqb a b && true)). sym (eqb→eq a b (and_l (eqb a b) true u))) t

pad : (A B : ℕ) → A ≤ B → A + 0 ≤ B + 0
pad A B h = omega arith

pad' : (A B : ℕ) → B ≤ A → 0 + B ≤ 0 + A
pad' A B h = omega arith

unpad : (A B : ℕ) → A + 0 ≤ B + 0 → A ≤ B
unpad A B h = omega arith

unpad' : (A B : ℕ) → 0 + B ≤ 0 + A → B ≤ A
unpad' A B h = omega arith

slt : (A B : ℕ) → A < B → A + 0 < B + 0
slt A B h = omega arith

slt' : (A B : ℕ) → B < A → 0 + B < 0 + A
slt' A B h = omega arith

unslt : (A B : ℕ) → A + 0 < B + 0 → A < B
unslt A B h = omega arith

unslt' : (A B : ℕ) → 0 + B < 0 + A → B < A
unslt' A B h = omega arith

not_below : (n : ℕ) → n < 0 → ⊥
not_below n h = omega arith

-- ---- `le`
pub le→value : (f : Format) (x y : Float) → Num f x → Num f y → T (le x y) → Le f x y
unfolding le hi lo
le→value f nan y p q t = absurd p.fin_x
le→value f (inf s) y p q t = absurd p.fin_x
le→value f (fin s m e) nan p q t = absurd q.fin_x
le→value f (fin s m e) (inf u) p q t = absurd q.fin_x
le→value f (fin false m e) (fin false n d) p q t = pad (mag f (fin false m e)) (mag f (fin false n d)) ((cross f false m e false n d p q).le_to (le_test (m * up e * down d) (n * up d * down e) t))
le→value f (fin false m e) (fin true n d) p q t = none_back (m * up e * down d) (n * up d * down e) (mag f (fin false m e)) (mag f (fin true n d)) (cross f false m e true n d p q) t
le→value f (fin true m e) (fin false n d) p q t = zero-le
le→value f (fin true m e) (fin true n d) p q t = pad' (mag f (fin true m e)) (mag f (fin true n d)) ((cross f true m e true n d p q).ge_to (ge_test (m * up e * down d) (n * up d * down e) t))

pub value→le : (f : Format) (x y : Float) → Num f x → Num f y → Le f x y → T (le x y)
unfolding le hi lo
value→le f nan y p q h = absurd p.fin_x
value→le f (inf s) y p q h = absurd p.fin_x
value→le f (fin s m e) nan p q h = absurd q.fin_x
value→le f (fin s m e) (inf u) p q h = absurd q.fin_x
value→le f (fin false m e) (fin false n d) p q h = test_le (m * up e * down d) (n * up d * down e) ((cross f false m e false n d p q).le_from (unpad (mag f (fin false m e)) (mag f (fin false n d)) h))
value→le f (fin false m e) (fin true n d) p q h = none (m * up e * down d) (n * up d * down e) (mag f (fin false m e)) (mag f (fin true n d)) (cross f false m e true n d p q) h
value→le f (fin true m e) (fin false n d) p q h = sum_test (m * up e * down d) (n * up d * down e)
value→le f (fin true m e) (fin true n d) p q h = test_ge (m * up e * down d) (n * up d * down e) ((cross f true m e true n d p q).ge_from (unpad' (mag f (fin true m e)) (mag f (fin true n d)) h))

-- ---- `lt`
pub lt→value : (f : Format) (x y : Float) → Num f x → Num f y → T (lt x y) → Lt f x y
unfolding lt hi lo
lt→value f nan y p q t = absurd p.fin_x
lt→value f (inf s) y p q t = absurd p.fin_x
lt→value f (fin s m e) nan p q t = absurd q.fin_x
lt→value f (fin s m e) (inf u) p q t = absurd q.fin_x
lt→value f (fin false m e) (fin false n d) p q t = slt (mag f (fin false m e)) (mag f (fin false n d)) ((cross f false m e false n d p q).lt_to (ltb→lt (m * up e * down d) (n * up d * down e) t))
lt→value f (fin false m e) (fin true n d) p q t = absurd t
lt→value f (fin true m e) (fin false n d) p q t = pos_in (m * up e * down d) (n * up d * down e) (mag f (fin true m e)) (mag f (fin false n d)) (cross f true m e false n d p q) (ltb→lt 0 (m * up e * down d + n * up d * down e) t)
lt→value f (fin true m e) (fin true n d) p q t = slt' (mag f (fin true m e)) (mag f (fin true n d)) ((cross f true m e true n d p q).gt_to (ltb→lt (n * up d * down e) (m * up e * down d) t))

pub value→lt : (f : Format) (x y : Float) → Num f x → Num f y → Lt f x y → T (lt x y)
unfolding lt hi lo
value→lt f nan y p q h = absurd p.fin_x
value→lt f (inf s) y p q h = absurd p.fin_x
value→lt f (fin s m e) nan p q h = absurd q.fin_x
value→lt f (fin s m e) (inf u) p q h = absurd q.fin_x
value→lt f (fin false m e) (fin false n d) p q h = lt→ltb (m * up e * down d) (n * up d * down e) ((cross f false m e false n d p q).lt_from (unslt (mag f (fin false m e)) (mag f (fin false n d)) h))
value→lt f (fin false m e) (fin true n d) p q h = absurd (not_below (mag f (fin false m e) + mag f (fin true n d)) h)
value→lt f (fin true m e) (fin false n d) p q h = lt→ltb 0 (m * up e * down d + n * up d * down e) (pos_out (m * up e * down d) (n * up d * down e) (mag f (fin true m e)) (mag f (fin false n d)) (cross f true m e false n d p q) h)
value→lt f (fin true m e) (fin true n d) p q h = lt→ltb (n * up d * down e) (m * up e * down d) ((cross f true m e true n d p q).gt_from (unslt' (mag f (fin true m e)) (mag f (fin true n d)) h))

-- ---- `eq`
level_to : (a b A B : ℕ) → Cross a b A B → T (eqb a b && true) → A ≡ B
level_to a b A B c t =
    let e : a ≡ b = eqb→eq a b (and_l (eqb a b) true t) in
    let u : A ≤ B = c.le_to (omega arith) in
    let v : B ≤ A = c.ge_to (omega arith) in
    omega arith

lev : (A B : ℕ) → A ≡ B → A + 0 ≡ B + 0
lev A B e = omega arith

lev' : (A B : ℕ) → A ≡ B → 0 + B ≡ 0 + A
lev' A B e = omega arith

both_none : (A B : ℕ) → A + B ≤ 0 → A + B ≡ 0
both_none A B h = omega arith

none_both : (A B : ℕ) → A + B ≤ 0 → 0 ≡ B + A
none_both A B h = omega arith

pub eq→value : (f : Format) (x y : Float) → Num f x → Num f y → T (eq x y) → Same f x y
unfolding eq hi lo
eq→value f nan y p q t = absurd p.fin_x
eq→value f (inf s) y p q t = absurd p.fin_x
eq→value f (fin s m e) nan p q t = absurd q.fin_x
eq→value f (fin s m e) (inf u) p q t = absurd q.fin_x
eq→value f (fin false m e) (fin false n d) p q t = lev (mag f (fin false m e)) (mag f (fin false n d)) (level_to (m * up e * down d) (n * up d * down e) (mag f (fin false m e)) (mag f (fin false n d)) (cross f false m e false n d p q) t)
eq→value f (fin false m e) (fin true n d) p q t = both_none (mag f (fin false m e)) (mag f (fin true n d)) (none_back (m * up e * down d) (n * up d * down e) (mag f (fin false m e)) (mag f (fin true n d)) (cross f false m e true n d p q) t)
eq→value f (fin true m e) (fin false n d) p q t = none_both (mag f (fin true m e)) (mag f (fin false n d)) (none_back (m * up e * down d) (n * up d * down e) (mag f (fin true m e)) (mag f (fin false n d)) (cross f true m e false n d p q) t)
eq→value f (fin true m e) (fin true n d) p q t = lev' (mag f (fin true m e)) (mag f (fin true n d)) (level_to (m * up e * down d) (n * up d * down e) (mag f (fin true m e)) (mag f (fin true n d)) (cross f true m e true n d p q) t)

-- ---- between two finite values
pub finite_between : (lo x hi : Float) → T (finite lo) → T (finite hi) → T (le lo x) → T (le x hi) → T (finite x)
unfolding le
finite_between nan x hi p q h k = absurd p
finite_between (inf s) x hi p q h k = absurd p
finite_between (fin s m e) nan hi p q h k = absurd h
finite_between (fin s m e) (inf true) hi p q h k = absurd h
finite_between (fin s m e) (inf false) nan p q h k = absurd q
finite_between (fin s m e) (inf false) (inf t) p q h k = absurd q
finite_between (fin s m e) (inf false) (fin t n d) p q h k = absurd k
finite_between (fin s m e) (fin t n d) hi p q h k = tt

pub num_between : {f : Format} {lo x hi : Float} → Num f lo → Num f hi → T (fits f x) → T (le lo x) → T (le x hi) → Num f x
num_between {f} {lo} {x} {hi} p q t h k = record { fin_x = finite_between lo x hi p.fin_x q.fin_x h k; fits_x = t }

-- ---- a test that failed
pub not-lt→value : (f : Format) (x y : Float) → Num f x → Num f y → T (not (lt x y)) → Le f y x
not-lt→value f x y p q t = le_of_suc-le-suc (lt_of_not-le (λ (h : suc (hi f x + lo f y) ≤ hi f y + lo f x). T_not (lt x y) t (value→lt f x y p q h)))
