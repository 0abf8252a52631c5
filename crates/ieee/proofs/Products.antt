-- Products of finite floats. With P = hi x * hi y + lo x * lo y and N = hi x * lo y + lo x * hi y the exact product is (P - N) / 2 ^ low units, and the float product is that,
-- rounded (`mul_rounds`). `RoundsBy f z P N D` is `Rounds` for a fraction, (P - N) / D units: it keeps the order (`by_mono`) and never crosses a held value (`by_le`, `by_ge`, `by_between`).
-- Bounds on the factors bound the product, which is then finite (`mul_bound`).
use Rattle.std.specs.Prelude.{◌≡◌, ◌⊎◌, Bool, true, false, ℕ, ◌+◌, ◌-◌, ◌*◌, ◌^◌, ◌≤◌, ◌<◌, ℤ, Float}
use Rattle.std.proofs.Common.{sym, ap, ◌∙◌, subst, inl, inr, zero-le, le_trans, le_of_eq, lt_of_le_of_lt, mul_assoc, zero-mul, mul-pos, mul-le-mul_right, mul-le-mul, arith, lit≤, pow_pos}
use Rattle.std.proofs.Math.Nat.{mul-mul-mul_comm}
use Rattle.std.specs.Float.{nan, inf, fin, Format}
use Rattle.std.specs.Float.Ieee.{prec, low, up, down, round, mul, neg}
use Rattle.std.specs.Float.Ieee.Fits.{down_pos, round-fits}
use Rattle.std.specs.Float.Ieee.Exact.{HasValue}
use Rattle.std.specs.Float.Ieee.Scale.{round_same, overflow}
use Rattle.ieee.specs.Nearest.{rnd, rnd_mono, rnd_same, rnd_fix, near, near_is}
use Rattle.ieee.specs.Value.{mag, hi, lo, Num, shape, hi_of, lo_of, finite_of, one_side, hi_fix, lo_fix, hi_under, lo_under, hi_neg, lo_neg, num_neg}
use Rattle.ieee.specs.Order.{Le}
use Rattle.ieee.specs.Rounding.{prec_pos, round_at, rounds_self, Between, sub_mul}

-- ---- a value that is (P - N) / D units, rounded
pub record RoundsBy (f : Format) (z : Float) (P N D : ℕ) : Type 0 where
  pub num : Num f z
  pub hi_is : hi f z ≡ rnd (prec f) (P - N) D
  pub lo_is : lo f z ≡ rnd (prec f) (N - P) D

pub record FineBy (f : Format) (P N D : ℕ) : Type 0 where
  pub above : rnd (prec f) (P - N) D < overflow f
  pub below : rnd (prec f) (N - P) D < overflow f

pub rnd_zero : (p D : ℕ) → 0 < p → 0 < D → rnd p 0 D ≡ 0
rnd_zero p D P C = subst (λ (x : ℕ). rnd p x D ≡ 0) (zero-mul D) (rnd_fix p 0 0 D P C zero-le)

-- the fraction n / (L * L) is n / L units
round_by : (f : Format) (s : Bool) (n : ℕ) → rnd (prec f) n (2 ^ low f) < overflow f → HasValue (round f s n (2 ^ low f * 2 ^ low f)) s (rnd (prec f) n (2 ^ low f)) (2 ^ low f)
round_by f s n h =
    let L = 2 ^ low f in
    let e : rnd (prec f) (n * L) (L * L) ≡ rnd (prec f) n L = rnd_same (prec f) (n * L) (L * L) n L (prec_pos f) (mul-pos (pow_pos (low f)) (pow_pos (low f))) (pow_pos (low f)) (mul_assoc n L L) in
    subst (λ (x : ℕ). HasValue (round f s n (L * L)) s x L) e (round_at f s n (L * L) (subst (λ (x : ℕ). x < overflow f) (sym e) h))

gone : (P N : ℕ) → P ≤ N → P - N ≡ 0
gone P N h = omega arith

none_left : (f : Format) (P N : ℕ) → P ≤ N → 0 ≡ rnd (prec f) (P - N) (2 ^ low f)
none_left f P N h = sym (ap (λ (x : ℕ). rnd (prec f) x (2 ^ low f)) (gone P N h) ∙ rnd_zero (prec f) (2 ^ low f) (prec_pos f) (pow_pos (low f)))

up_by : (f : Format) (P N n : ℕ) → FineBy f P N (2 ^ low f) → N ≤ P → P - N ≡ n → RoundsBy f (round f false n (2 ^ low f * 2 ^ low f)) P N (2 ^ low f)
up_by f P N n g h e =
    subst (λ (k : ℕ). RoundsBy f (round f false k (2 ^ low f * 2 ^ low f)) P N (2 ^ low f)) e
    (let v = round_by f false (P - N) g.above in
    let z = round f false (P - N) (2 ^ low f * 2 ^ low f) in
    let r = rnd (prec f) (P - N) (2 ^ low f) in
    record { num = record { fin_x = finite_of z false r (2 ^ low f) v; fits_x = round-fits f false (P - N) (2 ^ low f * 2 ^ low f) }; hi_is = hi_of f z false r v; lo_is = lo_of f z false r v ∙ none_left f N P h })

down_by : (f : Format) (P N n : ℕ) → FineBy f P N (2 ^ low f) → P ≤ N → N - P ≡ n → RoundsBy f (round f true n (2 ^ low f * 2 ^ low f)) P N (2 ^ low f)
down_by f P N n g h e =
    subst (λ (k : ℕ). RoundsBy f (round f true k (2 ^ low f * 2 ^ low f)) P N (2 ^ low f)) e
    (let v = round_by f true (N - P) g.below in
    let z = round f true (N - P) (2 ^ low f * 2 ^ low f) in
    let r = rnd (prec f) (N - P) (2 ^ low f) in
    record { num = record { fin_x = finite_of z true r (2 ^ low f) v; fits_x = round-fits f true (N - P) (2 ^ low f * 2 ^ low f) }; hi_is = hi_of f z true r v ∙ none_left f P N h; lo_is = lo_of f z true r v })

-- ---- the product in units
mul_units : (f : Format) (r s t : Bool) (m : ℕ) (e : ℤ) (n : ℕ) (d : ℤ) → Num f (fin s m e) → Num f (fin t n d)
    → round f r (mag f (fin s m e) * mag f (fin t n d)) (2 ^ low f * 2 ^ low f) ≡ round f r (m * up e * (n * up d)) (down e * down d)
mul_units f r s t m e n d p q =
    let A = mag f (fin s m e) in
    let B = mag f (fin t n d) in
    let L = 2 ^ low f in
    round_same f r (A * B) (L * L) (m * up e * (n * up d)) (down e * down d) (mul-pos (pow_pos (low f)) (pow_pos (low f))) (mul-pos (down_pos e) (down_pos d))
    (mul-mul-mul_comm A B (down e) (down d) ∙ ap (λ (x : ℕ). x * (B * down d)) (sym (shape f s m e p.fits_x).value) ∙ ap (λ (x : ℕ). m * up e * L * x) (sym (shape f t n d q.fits_x).value) ∙ sym (mul-mul-mul_comm (m * up e) (n * up d) L L))

-- the four signs, for the magnitudes A and B
module _ (A B : ℕ) where
  big : A * B + 0 * 0 - (A * 0 + 0 * B) ≡ A * B
  big = omega arith

  small : A * 0 + 0 * B ≤ A * B + 0 * 0
  small = omega arith

  big' : 0 * 0 + A * B - (0 * B + A * 0) ≡ A * B
  big' = omega arith

  small' : 0 * B + A * 0 ≤ 0 * 0 + A * B
  small' = omega arith

pub mul_rounds : (f : Format) (x y : Float) → Num f x → Num f y → FineBy f (hi f x * hi f y + lo f x * lo f y) (hi f x * lo f y + lo f x * hi f y) (2 ^ low f)
    → RoundsBy f (mul f x y) (hi f x * hi f y + lo f x * lo f y) (hi f x * lo f y + lo f x * hi f y) (2 ^ low f)
unfolding mul hi lo
mul_rounds f nan y p q g = absurd p.fin_x
mul_rounds f (inf s) y p q g = absurd p.fin_x
mul_rounds f (fin s m e) nan p q g = absurd q.fin_x
mul_rounds f (fin s m e) (inf u) p q g = absurd q.fin_x
mul_rounds f (fin false m e) (fin false n d) p q g =
    let A = mag f (fin false m e) in
    let B = mag f (fin false n d) in
    subst (λ (z : Float). RoundsBy f z (A * B + 0 * 0) (A * 0 + 0 * B) (2 ^ low f)) (mul_units f false false false m e n d p q)
    (up_by f (A * B + 0 * 0) (A * 0 + 0 * B) (A * B) g (small A B) (big A B))
mul_rounds f (fin false m e) (fin true n d) p q g =
    let A = mag f (fin false m e) in
    let B = mag f (fin true n d) in
    subst (λ (z : Float). RoundsBy f z (A * 0 + 0 * B) (A * B + 0 * 0) (2 ^ low f)) (mul_units f true false true m e n d p q)
    (down_by f (A * 0 + 0 * B) (A * B + 0 * 0) (A * B) g (small A B) (big A B))
mul_rounds f (fin true m e) (fin false n d) p q g =
    let A = mag f (fin true m e) in
    let B = mag f (fin false n d) in
    subst (λ (z : Float). RoundsBy f z (0 * B + A * 0) (0 * 0 + A * B) (2 ^ low f)) (mul_units f true true false m e n d p q)
    (down_by f (0 * B + A * 0) (0 * 0 + A * B) (A * B) g (small' A B) (big' A B))
mul_rounds f (fin true m e) (fin true n d) p q g =
    let A = mag f (fin true m e) in
    let B = mag f (fin true n d) in
    subst (λ (z : Float). RoundsBy f z (0 * 0 + A * B) (0 * B + A * 0) (2 ^ low f)) (mul_units f false true true m e n d p q)
    (up_by f (0 * 0 + A * B) (0 * B + A * 0) (A * B) g (small' A B) (big' A B))

-- ---- the order, as in `Rounding`
-- (P - N) / D ≤ (P' - N') / D'
scaled : (P N D P' N' D' : ℕ) → P * D' + N' * D ≤ P' * D + N * D' → (P - N) * D' ≤ (P' - N') * D
scaled P N D P' N' D' h =
    let a = sub_mul P N D' in
    let b = sub_mul P' N' D in
    le_trans (le_of_eq (sym a)) (le_trans (less (P * D') (N * D') (P' * D) (N' * D) h) (le_of_eq b))
  where
    less : (p n p' n' : ℕ) → p + n' ≤ p' + n → p - n ≤ p' - n'
    less p n p' n' h = omega arith

pub by_mono : {f : Format} {z z' : Float} {P N D P' N' D' : ℕ} → 0 < D → 0 < D' → RoundsBy f z P N D → RoundsBy f z' P' N' D' → P * D' + N' * D ≤ P' * D + N * D' → Le f z z'
by_mono {f} {z} {z'} {P} {N} {D} {P'} {N'} {D'} C C' r r' h =
    let a : hi f z ≤ hi f z' = le_trans (le_of_eq r.hi_is) (le_trans (rnd_mono (prec f) (P - N) D (P' - N') D' (prec_pos f) C C' (scaled P N D P' N' D' h)) (le_of_eq (sym r'.hi_is))) in
    let k : N' * D + P * D' ≤ N * D' + P' * D = omega arith in
    let b : lo f z' ≤ lo f z = le_trans (le_of_eq r'.lo_is) (le_trans (rnd_mono (prec f) (N' - P') D' (N - P) D (prec_pos f) C' C (scaled N' P' D' N P D k)) (le_of_eq (sym r.lo_is))) in
    le_add a b
  where
    le_add : hi f z ≤ hi f z' → lo f z' ≤ lo f z → Le f z z'
    le_add a b = omega arith

-- a value that the format holds is itself, rounded, over 1
pub by_self : {f : Format} {x : Float} → Num f x → RoundsBy f x (hi f x) (lo f x) 1
unfolding near
by_self p = let r = rounds_self p in record { num = p; hi_is = r.hi_is; lo_is = r.lo_is }

pub by_le : {f : Format} {z c : Float} {P N D : ℕ} → 0 < D → RoundsBy f z P N D → Num f c → P + lo f c * D ≤ hi f c * D + N → Le f z c
by_le {f} {z} {c} {P} {N} {D} C r p h = by_mono C (lit≤ tt) r (by_self p) (omega arith)

pub by_ge : {f : Format} {z c : Float} {P N D : ℕ} → 0 < D → RoundsBy f z P N D → Num f c → hi f c * D + N ≤ P + lo f c * D → Le f c z
by_ge {f} {z} {c} {P} {N} {D} C r p h = by_mono (lit≤ tt) C (by_self p) r (omega arith)

-- ---- no overflow, by values that bound the exact result
pub fine_by : {f : Format} {c b : Float} (P N D : ℕ) → 0 < D → Num f c → Num f b → P ≤ N + hi f c * D → N ≤ P + lo f b * D → FineBy f P N D
fine_by {f} {c} {b} P N D C p q h k = record {
  above = lt_of_le_of_lt (under (P - N) (hi f c) (omega arith) (hi_fix f c p.fits_x)) (hi_under f c p.fits_x);
  below = lt_of_le_of_lt (under (N - P) (lo f b) (omega arith) (lo_fix f b q.fits_x)) (lo_under f b q.fits_x);
}
  where
    under : (n m : ℕ) → n ≤ m * D → near (prec f) m ≡ m → rnd (prec f) n D ≤ m
    under n m l e = le_trans (rnd_mono (prec f) n D (m * D) D (prec_pos f) C C (mul-le-mul_right D l)) (le_of_eq (near_is (prec f) m D (prec_pos f) C ∙ e))

-- never across a value that the format holds
pub by_between : {f : Format} {c z b : Float} {P N D : ℕ} → 0 < D → RoundsBy f z P N D → Num f c → Num f b → hi f c * D + N ≤ P + lo f c * D → P + lo f b * D ≤ hi f b * D + N → Between f c z b
by_between C r p q h k = record { num = r.num; from = by_ge C r p h; to = by_le C r q k }

-- ---- |x| ≤ A and |y| ≤ B, and the format holds c, which is A * B at least
one_term : (a b x y A B : ℕ) → (a ≡ 0) ⊎ (b ≡ 0) → a ≤ A → b ≤ A → x ≤ B → y ≤ B → a * x + b * y ≤ A * B
one_term a b x y A B (inl e) h k g l =
    let z : a * x ≡ 0 = ap (λ (n : ℕ). n * x) e ∙ zero-mul x in
    let m : b * y ≤ A * B = mul-le-mul k l in
    omega arith
one_term a b x y A B (inr e) h k g l =
    let z : b * y ≡ 0 = ap (λ (n : ℕ). n * y) e ∙ zero-mul y in
    let m : a * x ≤ A * B = mul-le-mul h g in
    omega arith

pub mul_bound : (f : Format) (x y c : Float) (A B : ℕ) → Num f x → Num f y → Num f c → lo f c ≡ 0 → hi f x ≤ A → lo f x ≤ A → hi f y ≤ B → lo f y ≤ B → A * B ≤ hi f c * 2 ^ low f
    → Between f (neg c) (mul f x y) c
mul_bound f x y c A B p q r z a b a' b' h =
    let P = hi f x * hi f y + lo f x * lo f y in
    let N = hi f x * lo f y + lo f x * hi f y in
    let L = 2 ^ low f in
    let u : P ≤ A * B = one_term (hi f x) (lo f x) (hi f y) (lo f y) A B (one_side f x) a b a' b' in
    let v : N ≤ A * B = one_term (hi f x) (lo f x) (lo f y) (hi f y) A B (one_side f x) a b b' a' in
    let e : lo f (neg c) * L ≡ hi f c * L = ap (λ (n : ℕ). n * L) (lo_neg f c) in
    let g : hi f (neg c) * L ≡ 0 = ap (λ (n : ℕ). n * L) (hi_neg f c ∙ z) ∙ zero-mul L in
    let w : lo f c * L ≡ 0 = ap (λ (n : ℕ). n * L) z ∙ zero-mul L in
    by_between (pow_pos (low f)) (mul_rounds f x y p q (fine_by P N L (pow_pos (low f)) r (num_neg r) (over P N (A * B) (hi f c * L) u h) (under P N (A * B) (hi f c * L) (lo f (neg c) * L) v h e))) (num_neg r) r
    (from P N (A * B) (hi f c * L) (lo f (neg c) * L) (hi f (neg c) * L) v h e g) (to P N (A * B) (hi f c * L) (lo f c * L) u h w)
  where
    over : (P N m k : ℕ) → P ≤ m → m ≤ k → P ≤ N + k
    over P N m k u h = omega arith

    under : (P N m k l : ℕ) → N ≤ m → m ≤ k → l ≡ k → N ≤ P + l
    under P N m k l v h e = omega arith

    from : (P N m k l g : ℕ) → N ≤ m → m ≤ k → l ≡ k → g ≡ 0 → g + N ≤ P + l
    from P N m k l g v h e z = omega arith

    to : (P N m k w : ℕ) → P ≤ m → m ≤ k → w ≡ 0 → P + w ≤ k + N
    to P N m k w u h z = omega arith
