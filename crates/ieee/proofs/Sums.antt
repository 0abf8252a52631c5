-- Sums and differences of finite floats. With P = hi x + hi y and N = lo x + lo y the exact sum is P - N units, and the float sum is that, rounded (`add_rounds`, `sub_rounds`);
-- a finite one did not overflow (`add_fine`). So it never crosses a held value (`add_between`, which gives finiteness too).
-- The same for `sub`.
use Rattle.std.specs.Prelude.{◌≡◌, Bool, not, cond, ltb, Float}
use Rattle.std.proofs.Common.{sym, ap, ◌∙◌, subst, mul_comm, mul-pos, add-mul, arith, ltb→lt, nltb→le, pow_pos}
use Rattle.std.proofs.Math.Bool.{true, false}
use Prim.Native.Nat.{ℕ, suc, ◌+◌, ◌-◌, ◌*◌, ◌^◌, ◌≤◌, ◌<◌, zero-le}
use Rattle.std.proofs.Math.Nat.{mul-sub}
use Rattle.std.proofs.Math.Dec.{T}
use Rattle.std.specs.Float.{nan, inf, fin, Format}
use Rattle.std.specs.Float.Ieee.{prec, emax, low, up, down, neg, round, sum, add, sub}
use Rattle.std.specs.Float.Ieee.Fits.{down_pos, round-fits}
use Rattle.std.specs.Float.Ieee.Scale.{round_same, finite, overflow}
use Rattle.ieee.specs.Nearest.{near, near_is, near_zero}
use Rattle.ieee.specs.Value.{mag, hi, lo, Num, shape, hi_of, lo_of, finite_of, hi_neg, lo_neg, num_neg}
use Rattle.ieee.specs.Order.{left_units, right_units, Cross, crossed}
use Rattle.ieee.specs.Rounding.{prec_pos, round_units, Rounds, Fine, round_under, fine_between, Between, rounds_between}

none_left : (f : Format) (P N : ℕ) → P ≤ N → 0 ≡ near (prec f) (P - N)
none_left f P N h = sym (ap (λ (x : ℕ). near (prec f) x) (gone P N h) ∙ near_zero (prec f) (prec_pos f))
  where
    gone : (P N : ℕ) → P ≤ N → P - N ≡ 0
    gone P N h = omega arith

up_rounds : (f : Format) (P N : ℕ) → Fine f P N → N ≤ P → Rounds f (round f false (P - N) (2 ^ low f)) P N
up_rounds f P N g h =
    let v = round_units f false (P - N) g.above in
    let z = round f false (P - N) (2 ^ low f) in
    record { num = record { fin_x = finite_of z false (near (prec f) (P - N)) (2 ^ low f) v; fits_x = round-fits f false (P - N) (2 ^ low f) }; hi_is = hi_of f z false (near (prec f) (P - N)) v; lo_is = lo_of f z false (near (prec f) (P - N)) v ∙ none_left f N P h }

down_rounds : (f : Format) (P N : ℕ) → Fine f P N → P ≤ N → Rounds f (round f true (N - P) (2 ^ low f)) P N
down_rounds f P N g h =
    let v = round_units f true (N - P) g.below in
    let z = round f true (N - P) (2 ^ low f) in
    record { num = record { fin_x = finite_of z true (near (prec f) (N - P)) (2 ^ low f) v; fits_x = round-fits f true (N - P) (2 ^ low f) }; hi_is = hi_of f z true (near (prec f) (N - P)) v ∙ none_left f P N h; lo_is = lo_of f z true (near (prec f) (N - P)) v }

up_at : (f : Format) (z : Float) (P N n : ℕ) → Fine f P N → N ≤ P → P - N ≡ n → round f false n (2 ^ low f) ≡ z → Rounds f z P N
up_at f z P N n g h e k = subst (λ (y : Float). Rounds f y P N) (ap (λ (x : ℕ). round f false x (2 ^ low f)) e ∙ k) (up_rounds f P N g h)

down_at : (f : Format) (z : Float) (P N n : ℕ) → Fine f P N → P ≤ N → N - P ≡ n → round f true n (2 ^ low f) ≡ z → Rounds f z P N
down_at f z P N n g h e k = subst (λ (y : Float). Rounds f y P N) (ap (λ (x : ℕ). round f true x (2 ^ low f)) e ∙ k) (down_rounds f P N g h)

-- ---- `sum` of a / c and b / c, which are A and B units
sub_units : (a b c A B L : ℕ) → a * L ≡ A * c → b * L ≡ B * c → (a - b) * L ≡ (A - B) * c
sub_units a b c A B L p q =
    mul_comm (a - b) L ∙ mul-sub L a b ∙ ap (λ (x : ℕ). x - L * b) (mul_comm L a ∙ p ∙ mul_comm A c) ∙ ap (λ (x : ℕ). c * A - x) (mul_comm L b ∙ q ∙ mul_comm B c)
    ∙ sym (mul-sub c A B) ∙ mul_comm c (A - B)

add_units : (a b c A B L : ℕ) → a * L ≡ A * c → b * L ≡ B * c → (a + b) * L ≡ (A + B) * c
add_units a b c A B L p q = add-mul a b L ∙ ap (λ (x : ℕ). x + b * L) p ∙ ap (λ (x : ℕ). A * c + x) q ∙ sym (add-mul A B c)

module _ (f : Format) (a b c A B : ℕ) (C : 0 < c) (p : a * 2 ^ low f ≡ A * c) (q : b * 2 ^ low f ≡ B * c) where
  pub round_add : (s : Bool) → round f s (A + B) (2 ^ low f) ≡ round f s (a + b) c
  round_add s = sym (round_same f s (a + b) c (A + B) (2 ^ low f) C (pow_pos (low f)) (add_units a b c A B (2 ^ low f) p q))

  pub round_sub : (s : Bool) → round f s (A - B) (2 ^ low f) ≡ round f s (a - b) c
  round_sub s = sym (round_same f s (a - b) c (A - B) (2 ^ low f) C (pow_pos (low f)) (sub_units a b c A B (2 ^ low f) p q))

  pub round_bus : (s : Bool) → round f s (B - A) (2 ^ low f) ≡ round f s (b - a) c
  round_bus s = sym (round_same f s (b - a) c (B - A) (2 ^ low f) C (pow_pos (low f)) (sub_units b a c B A (2 ^ low f) q p))

  x : Cross a b A B
  x = crossed a b A B c (2 ^ low f) C (pow_pos (low f)) p q

  sum_ff : Fine f (A + B) (0 + 0) → Rounds f (sum f false a false b c) (A + B) (0 + 0)
  unfolding sum
  sum_ff g = up_at f (round f false (a + b) c) (A + B) 0 (A + B) g zero-le (omega arith) (round_add false)

  sum_tt : Fine f (0 + 0) (A + B) → Rounds f (sum f true a true b c) (0 + 0) (A + B)
  unfolding sum
  sum_tt g = down_at f (round f true (a + b) c) 0 (A + B) (A + B) g zero-le (omega arith) (round_add true)

  ft_go : Fine f (A + 0) (0 + B) → (k : Bool) → (T k → A < B) → (T (not k) → B ≤ A) → Rounds f (cond k (round f true (b - a) c) (round f false (a - b) c)) (A + 0) (0 + B)
  ft_go g true h l = let w = h tt in down_at f (round f true (b - a) c) (A + 0) (0 + B) (B - A) g (omega arith) (omega arith) (round_bus true)
  ft_go g false h l = let w = l tt in up_at f (round f false (a - b) c) (A + 0) (0 + B) (A - B) g (omega arith) (omega arith) (round_sub false)

  sum_ft : Fine f (A + 0) (0 + B) → Rounds f (sum f false a true b c) (A + 0) (0 + B)
  unfolding sum
  sum_ft g = ft_go g (ltb a b) (λ (t : T (ltb a b)). x.lt_to (ltb→lt a b t)) (λ (t : T (not (ltb a b))). x.ge_to (nltb→le a b t))

  tf_end : Fine f (0 + B) (A + 0) → B ≤ A → (k : Bool) → (T (not k) → A ≤ B) → Rounds f (round f k (a - b) c) (0 + B) (A + 0)
  tf_end g w true h = down_at f (round f true (a - b) c) (0 + B) (A + 0) (A - B) g (omega arith) (omega arith) (round_sub true)
  tf_end g w false h = let v = h tt in up_at f (round f false (a - b) c) (0 + B) (A + 0) (A - B) g (omega arith) (omega arith) (round_sub false)

  tf_go : Fine f (0 + B) (A + 0) → (k : Bool) → (T k → A < B) → (T (not k) → B ≤ A) → Rounds f (cond k (round f false (b - a) c) (round f (ltb b a) (a - b) c)) (0 + B) (A + 0)
  tf_go g true h l = let w = h tt in up_at f (round f false (b - a) c) (0 + B) (A + 0) (B - A) g (omega arith) (omega arith) (round_bus false)
  tf_go g false h l = tf_end g (l tt) (ltb b a) (λ (t : T (not (ltb b a))). x.le_to (nltb→le b a t))

  sum_tf : Fine f (0 + B) (A + 0) → Rounds f (sum f true a false b c) (0 + B) (A + 0)
  unfolding sum
  sum_tf g = tf_go g (ltb a b) (λ (t : T (ltb a b)). x.lt_to (ltb→lt a b t)) (λ (t : T (not (ltb a b))). x.ge_to (nltb→le a b t))

-- ---- `add`
pub add_rounds : (f : Format) (x y : Float) → Num f x → Num f y → Fine f (hi f x + hi f y) (lo f x + lo f y) → Rounds f (add f x y) (hi f x + hi f y) (lo f x + lo f y)
unfolding add hi lo
add_rounds f nan y p q g = absurd p.fin_x
add_rounds f (inf s) y p q g = absurd p.fin_x
add_rounds f (fin s m e) nan p q g = absurd q.fin_x
add_rounds f (fin s m e) (inf u) p q g = absurd q.fin_x
add_rounds f (fin false m e) (fin false n d) p q g =
    sum_ff f (m * up e * down d) (n * up d * down e) (down e * down d) (mag f (fin false m e)) (mag f (fin false n d)) (mul-pos (down_pos e) (down_pos d))
    (left_units f m (mag f (fin false m e)) e d (shape f false m e p.fits_x).value) (right_units f n (mag f (fin false n d)) d e (shape f false n d q.fits_x).value) g
add_rounds f (fin false m e) (fin true n d) p q g =
    sum_ft f (m * up e * down d) (n * up d * down e) (down e * down d) (mag f (fin false m e)) (mag f (fin true n d)) (mul-pos (down_pos e) (down_pos d))
    (left_units f m (mag f (fin false m e)) e d (shape f false m e p.fits_x).value) (right_units f n (mag f (fin true n d)) d e (shape f true n d q.fits_x).value) g
add_rounds f (fin true m e) (fin false n d) p q g =
    sum_tf f (m * up e * down d) (n * up d * down e) (down e * down d) (mag f (fin true m e)) (mag f (fin false n d)) (mul-pos (down_pos e) (down_pos d))
    (left_units f m (mag f (fin true m e)) e d (shape f true m e p.fits_x).value) (right_units f n (mag f (fin false n d)) d e (shape f false n d q.fits_x).value) g
add_rounds f (fin true m e) (fin true n d) p q g =
    sum_tt f (m * up e * down d) (n * up d * down e) (down e * down d) (mag f (fin true m e)) (mag f (fin true n d)) (mul-pos (down_pos e) (down_pos d))
    (left_units f m (mag f (fin true m e)) e d (shape f true m e p.fits_x).value) (right_units f n (mag f (fin true n d)) d e (shape f true n d q.fits_x).value) g

-- ---- `sub`
pub sub_rounds : (f : Format) (x y : Float) → Num f x → Num f y → Fine f (hi f x + lo f y) (lo f x + hi f y) → Rounds f (sub f x y) (hi f x + lo f y) (lo f x + hi f y)
unfolding sub
sub_rounds f x y p q g =
    subst (λ (k : ℕ). Rounds f (add f x (neg y)) (hi f x + k) (lo f x + hi f y)) (hi_neg f y)
    (subst (λ (k : ℕ). Rounds f (add f x (neg y)) (hi f x + hi f (neg y)) (lo f x + k)) (lo_neg f y)
    (add_rounds f x (neg y) p (num_neg q)
    (subst (λ (k : ℕ). Fine f (hi f x + k) (lo f x + lo f (neg y))) (sym (hi_neg f y))
    (subst (λ (k : ℕ). Fine f (hi f x + lo f y) (lo f x + k)) (sym (lo_neg f y)) g))))

-- ---- a finite result did not overflow
near_under : (f : Format) (s : Bool) (n : ℕ) → T (finite (round f s n (2 ^ low f))) → near (prec f) n < overflow f
near_under f s n t = subst (λ (x : ℕ). x < overflow f) (near_is (prec f) n (2 ^ low f) (prec_pos f) (pow_pos (low f))) (round_under f s n (2 ^ low f) t)

zero_under : (f : Format) (P N : ℕ) → P ≤ N → near (prec f) (P - N) < overflow f
zero_under f P N h = subst (λ (x : ℕ). x < overflow f) (none_left f P N h) (pow_pos (low f + suc (emax f)))

fine_up : (f : Format) (s : Bool) (z : Float) (P N n : ℕ) → N ≤ P → P - N ≡ n → round f s n (2 ^ low f) ≡ z → T (finite z) → Fine f P N
fine_up f s z P N n h e k t =
    record { above = near_under f s (P - N) (subst (λ (y : Float). T (finite y)) (sym (ap (λ (x : ℕ). round f s x (2 ^ low f)) e ∙ k)) t); below = zero_under f N P h }

fine_down : (f : Format) (s : Bool) (z : Float) (P N n : ℕ) → P ≤ N → N - P ≡ n → round f s n (2 ^ low f) ≡ z → T (finite z) → Fine f P N
fine_down f s z P N n h e k t =
    record { above = zero_under f P N h; below = near_under f s (N - P) (subst (λ (y : Float). T (finite y)) (sym (ap (λ (x : ℕ). round f s x (2 ^ low f)) e ∙ k)) t) }

module _ (f : Format) (a b c A B : ℕ) (C : 0 < c) (p : a * 2 ^ low f ≡ A * c) (q : b * 2 ^ low f ≡ B * c) where
  y : Cross a b A B
  y = crossed a b A B c (2 ^ low f) C (pow_pos (low f)) p q

  fine_ff : T (finite (sum f false a false b c)) → Fine f (A + B) (0 + 0)
  unfolding sum
  fine_ff t = fine_up f false (round f false (a + b) c) (A + B) 0 (A + B) zero-le (omega arith) (round_add f a b c A B C p q false) t

  fine_tt : T (finite (sum f true a true b c)) → Fine f (0 + 0) (A + B)
  unfolding sum
  fine_tt t = fine_down f true (round f true (a + b) c) 0 (A + B) (A + B) zero-le (omega arith) (round_add f a b c A B C p q true) t

  -- A - B or B - A, with either sign
  two_way : (k s t : Bool) → (T k → A < B) → (T (not k) → B ≤ A) → T (finite (cond k (round f s (b - a) c) (round f t (a - b) c))) → Fine f (A + 0) (0 + B)
  two_way true s t h l u = let w = h tt in fine_down f s (round f s (b - a) c) (A + 0) (0 + B) (B - A) (omega arith) (omega arith) (round_bus f a b c A B C p q s) u
  two_way false s t h l u = let w = l tt in fine_up f t (round f t (a - b) c) (A + 0) (0 + B) (A - B) (omega arith) (omega arith) (round_sub f a b c A B C p q t) u

  fine_ft : T (finite (sum f false a true b c)) → Fine f (A + 0) (0 + B)
  unfolding sum
  fine_ft t = two_way (ltb a b) true false (λ (t : T (ltb a b)). y.lt_to (ltb→lt a b t)) (λ (t : T (not (ltb a b))). y.ge_to (nltb→le a b t)) t

  swapped : Fine f (A + 0) (0 + B) → Fine f (0 + B) (A + 0)
  swapped g = record { above = g.below; below = g.above }

  fine_tf : T (finite (sum f true a false b c)) → Fine f (0 + B) (A + 0)
  unfolding sum
  fine_tf t = swapped (two_way (ltb a b) false (ltb b a) (λ (t : T (ltb a b)). y.lt_to (ltb→lt a b t)) (λ (t : T (not (ltb a b))). y.ge_to (nltb→le a b t)) t)

pub add_fine : (f : Format) (x y : Float) → Num f x → Num f y → T (finite (add f x y)) → Fine f (hi f x + hi f y) (lo f x + lo f y)
unfolding add hi lo
add_fine f nan y p q t = absurd p.fin_x
add_fine f (inf s) y p q t = absurd p.fin_x
add_fine f (fin s m e) nan p q t = absurd q.fin_x
add_fine f (fin s m e) (inf u) p q t = absurd q.fin_x
add_fine f (fin false m e) (fin false n d) p q t =
    fine_ff f (m * up e * down d) (n * up d * down e) (down e * down d) (mag f (fin false m e)) (mag f (fin false n d)) (mul-pos (down_pos e) (down_pos d))
    (left_units f m (mag f (fin false m e)) e d (shape f false m e p.fits_x).value) (right_units f n (mag f (fin false n d)) d e (shape f false n d q.fits_x).value) t
add_fine f (fin false m e) (fin true n d) p q t =
    fine_ft f (m * up e * down d) (n * up d * down e) (down e * down d) (mag f (fin false m e)) (mag f (fin true n d)) (mul-pos (down_pos e) (down_pos d))
    (left_units f m (mag f (fin false m e)) e d (shape f false m e p.fits_x).value) (right_units f n (mag f (fin true n d)) d e (shape f true n d q.fits_x).value) t
add_fine f (fin true m e) (fin false n d) p q t =
    fine_tf f (m * up e * down d) (n * up d * down e) (down e * down d) (mag f (fin true m e)) (mag f (fin false n d)) (mul-pos (down_pos e) (down_pos d))
    (left_units f m (mag f (fin true m e)) e d (shape f true m e p.fits_x).value) (right_units f n (mag f (fin false n d)) d e (shape f false n d q.fits_x).value) t
add_fine f (fin true m e) (fin true n d) p q t =
    fine_tt f (m * up e * down d) (n * up d * down e) (down e * down d) (mag f (fin true m e)) (mag f (fin true n d)) (mul-pos (down_pos e) (down_pos d))
    (left_units f m (mag f (fin true m e)) e d (shape f true m e p.fits_x).value) (right_units f n (mag f (fin true n d)) d e (shape f true n d q.fits_x).value) t

pub sub_fine : (f : Format) (x y : Float) → Num f x → Num f y → T (finite (sub f x y)) → Fine f (hi f x + lo f y) (lo f x + hi f y)
unfolding sub
sub_fine f x y p q t =
    subst (λ (k : ℕ). Fine f (hi f x + k) (lo f x + hi f y)) (hi_neg f y)
    (subst (λ (k : ℕ). Fine f (hi f x + hi f (neg y)) (lo f x + k)) (lo_neg f y) (add_fine f x (neg y) p (num_neg q) t))

-- ---- a finite difference
pub sub_is : (f : Format) (x y : Float) → Num f x → Num f y → T (finite (sub f x y)) → Rounds f (sub f x y) (hi f x + lo f y) (lo f x + hi f y)
sub_is f x y p q t = sub_rounds f x y p q (sub_fine f x y p q t)

-- ---- the order
-- the exact sum lies between two values that the format holds, and so does the rounded one, which is then finite
pub add_between : (f : Format) (x y c d : Float) → Num f x → Num f y → Num f c → Num f d → hi f c + (lo f x + lo f y) ≤ hi f x + hi f y + lo f c → hi f x + hi f y + lo f d ≤ hi f d + (lo f x + lo f y) → Between f c (add f x y) d
add_between f x y c d p q r s h k = rounds_between (add_rounds f x y p q (fine_between (hi f x + hi f y) (lo f x + lo f y) s r (omega arith) (omega arith))) r s h k

pub sub_between : (f : Format) (x y c d : Float) → Num f x → Num f y → Num f c → Num f d → hi f c + (lo f x + hi f y) ≤ hi f x + lo f y + lo f c → hi f x + lo f y + lo f d ≤ hi f d + (lo f x + hi f y) → Between f c (sub f x y) d
sub_between f x y c d p q r s h k = rounds_between (sub_rounds f x y p q (fine_between (hi f x + lo f y) (lo f x + hi f y) s r (omega arith) (omega arith))) r s h k
