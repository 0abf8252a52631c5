-- Rounding of an exact value. `Rounds f z P N`: z is P - N units, rounded to the format f. `Fine f P N`: that does not overflow.
-- Such a z keeps the order (`rounds_mono`), never crosses a value that the format holds (`rounds_le`, `rounds_ge`, `rounds_between`),
-- is off by half of the last digit at most (`rounds_err`, `rounds_near`), and is exact where the format has the digits (`rounds_exact`).
-- All of it is linear in hi, lo, P, N and one power of two, for `omega`. `pow2 j` is 2 ^ j kept shut, since `omega` reads no numeral of 40 digits:
-- in binary32 `pow2 149` units are 1, and `pow2 134` are 2 ^ -15.
use Rattle.std.specs.Prelude.{◌≡◌, refl, ◌⊎◌, Bool, true, false, not, cond, ℕ, zero, suc, ◌+◌, ◌-◌, ◌*◌, ◌^◌, ◌≤◌, ◌<◌, T, ltb, leb, Float}
use Rattle.std.proofs.Common.{sym, ap, ◌∙◌, subst, inl, inr, le_trans, le_of_eq, le_of_lt, lt_of_le_of_lt, mul_comm, one-mul, arith, ltb→lt, leb→le, pow_pos, pow-add}
use Rattle.std.proofs.Math.Nat.{mul-sub}
use Rattle.std.proofs.Math.Dec.{nleb→lt}
use Rattle.std.proofs.Math.Pow.{pow-lt}
use Rattle.std.specs.Float.{inf, Format}
use Rattle.std.specs.Float.Ieee.{prec, emax, low, neg, odd, units, round}
use Rattle.std.specs.Float.Ieee.Fits.{two, two-le_pos, round_is}
use Rattle.std.specs.Float.Ieee.Exact.{HasValue, units_val}
use Rattle.std.specs.Float.Ieee.Order.{drop, kept}
use Rattle.std.specs.Float.Ieee.Scale.{finite, overflow}
use Rattle.ieee.specs.Nearest.{rnd, near, near_is, near_mono, near_fix, near_zero, near_err}
use Rattle.ieee.specs.Value.{hi, lo, Num, one_side, hi_fix, lo_fix, hi_under, lo_under}
use Rattle.ieee.specs.Order.{Le}

-- ---- powers of two that stay shut
unfoldable pub pow2 : ℕ → ℕ
pow2 j = 2 ^ j

pub pow2_is : (j : ℕ) → pow2 j ≡ 2 ^ j
unfolding pow2
pow2_is j = refl

pub pow2_add : (i j : ℕ) → pow2 (i + j) ≡ 2 ^ i * pow2 j
unfolding pow2
pow2_add i j = pow-add 2 i j

pub pow2_pos : (j : ℕ) → 0 < pow2 j
unfolding pow2
pow2_pos j = pow_pos j

pub pow2_suc : (p j : ℕ) → 2 ^ suc p * pow2 j ≡ 2 ^ (p + suc j)
pow2_suc p j = sym (pow2_add (suc p) j) ∙ pow2_is (suc p + j) ∙ ap (λ (x : ℕ). 2 ^ x) (shift p j)
  where
    shift : (p j : ℕ) → suc p + j ≡ p + suc j
    shift p j = omega arith

-- a format keeps a digit at least
pub prec_pos : (f : Format) → 0 < prec f
prec_pos f = two-le_pos (prec f) (two f)

-- ---- `round`, with either sign
pub round_at : (f : Format) (s : Bool) (num den : ℕ) → rnd (prec f) (num * 2 ^ low f) den < overflow f → HasValue (round f s num den) s (rnd (prec f) (num * 2 ^ low f) den) (2 ^ low f)
round_at f s a c h =
    subst (λ (z : Float). HasValue z s (rnd (prec f) (a * 2 ^ low f) c) (2 ^ low f)) (sym (round_is f s a c))
    (units_val f s (kept (prec f) (a * 2 ^ low f) c) (drop (prec f) (a * 2 ^ low f) c) h)

pub round_units : (f : Format) (s : Bool) (n : ℕ) → near (prec f) n < overflow f → HasValue (round f s n (2 ^ low f)) s (near (prec f) n) (2 ^ low f)
round_units f s n h =
    let e = near_is (prec f) n (2 ^ low f) (prec_pos f) (pow_pos (low f)) in
    subst (λ (x : ℕ). HasValue (round f s n (2 ^ low f)) s x (2 ^ low f)) e (round_at f s n (2 ^ low f) (subst (λ (x : ℕ). x < overflow f) (sym e) h))

-- ---- a value that is P - N units, rounded
pub record Rounds (f : Format) (z : Float) (P N : ℕ) : Type 0 where
  pub num : Num f z
  pub hi_is : hi f z ≡ near (prec f) (P - N)
  pub lo_is : lo f z ≡ near (prec f) (N - P)

-- that it does not overflow
pub record Fine (f : Format) (P N : ℕ) : Type 0 where
  pub above : near (prec f) (P - N) < overflow f
  pub below : near (prec f) (N - P) < overflow f

-- ---- a finite result did not overflow
units_under : (f : Format) (s : Bool) (q k : ℕ) → T (finite (units f s q k)) → q * 2 ^ k < overflow f
unfolding units
units_under f s q k = go (ltb (q * 2 ^ k) (overflow f)) (ltb→lt (q * 2 ^ k) (overflow f))
  where
    go : (b : Bool) → (T b → q * 2 ^ k < overflow f) → T (finite (cond b (odd (suc (prec f)) s q k (low f)) (inf s))) → q * 2 ^ k < overflow f
    go true h t = h tt
    go false h t = absurd t

pub round_under : (f : Format) (s : Bool) (a c : ℕ) → T (finite (round f s a c)) → rnd (prec f) (a * 2 ^ low f) c < overflow f
round_under f s a c t = units_under f s (kept (prec f) (a * 2 ^ low f) c) (drop (prec f) (a * 2 ^ low f) c) (subst (λ (z : Float). T (finite z)) (round_is f s a c) t)

-- the other sign
odd_neg : (d : ℕ) (s : Bool) (q k l : ℕ) → odd d (not s) q k l ≡ neg (odd d s q k l)
unfolding odd neg
odd_neg d s zero k l = refl
odd_neg d s (suc q) k l = refl

cond_neg : (b : Bool) (x y : Float) → cond b (neg x) (neg y) ≡ neg (cond b x y)
cond_neg true x y = refl
cond_neg false x y = refl

units_neg : (f : Format) (s : Bool) (q k : ℕ) → units f (not s) q k ≡ neg (units f s q k)
unfolding units neg
units_neg f s q k =
    ap (λ (z : Float). cond (ltb (q * 2 ^ k) (overflow f)) z (inf (not s))) (odd_neg (suc (prec f)) s q k (low f))
    ∙ cond_neg (ltb (q * 2 ^ k) (overflow f)) (odd (suc (prec f)) s q k (low f)) (inf s)

pub round_neg : (f : Format) (s : Bool) (num den : ℕ) → round f (not s) num den ≡ neg (round f s num den)
unfolding round
round_neg f s num den =
    units_neg f s (kept (prec f) (num * 2 ^ low f) den) (drop (prec f) (num * 2 ^ low f) den)

-- ---- no overflow
pub fine_between : {f : Format} {c d : Float} (P N : ℕ) → Num f c → Num f d → P ≤ N + hi f c → N ≤ P + lo f d → Fine f P N
fine_between {f} {c} {d} P N p q h k =
    record {
      above = lt_of_le_of_lt (le_trans (near_mono (prec f) (P - N) (hi f c) (prec_pos f) (omega arith)) (le_of_eq (hi_fix f c p.fits_x))) (hi_under f c p.fits_x);
      below = lt_of_le_of_lt (le_trans (near_mono (prec f) (N - P) (lo f d) (prec_pos f) (omega arith)) (le_of_eq (lo_fix f d q.fits_x))) (lo_under f d q.fits_x);
    }

near_pow : (f : Format) (k : ℕ) → near (prec f) (2 ^ k) ≡ 2 ^ k
near_pow f k = subst (λ (x : ℕ). near (prec f) x ≡ x) (one-mul (2 ^ k)) (near_fix (prec f) 1 k (prec_pos f) (pow_pos (prec f)))

pub fine_pow : (f : Format) (k P N : ℕ) → k < low f + suc (emax f) → P ≤ N + 2 ^ k → N ≤ P + 2 ^ k → Fine f P N
fine_pow f k P N l h g =
    record {
      above = lt_of_le_of_lt (le_trans (near_mono (prec f) (P - N) (2 ^ k) (prec_pos f) (omega arith)) (le_of_eq (near_pow f k))) (pow-lt l);
      below = lt_of_le_of_lt (le_trans (near_mono (prec f) (N - P) (2 ^ k) (prec_pos f) (omega arith)) (le_of_eq (near_pow f k))) (pow-lt l);
    }

pub fine_pow2 : (f : Format) (j P N : ℕ) → prec f + suc j < low f + suc (emax f) → P ≤ N + 2 ^ suc (prec f) * pow2 j → N ≤ P + 2 ^ suc (prec f) * pow2 j → Fine f P N
fine_pow2 f j P N l h k = fine_pow f (prec f + suc j) P N l (subst (λ (x : ℕ). P ≤ N + x) (pow2_suc (prec f) j) h) (subst (λ (x : ℕ). N ≤ P + x) (pow2_suc (prec f) j) k)

-- ---- the order
pub rounds_mono : {f : Format} {z z' : Float} {P N P' N' : ℕ} → Rounds f z P N → Rounds f z' P' N' → P + N' ≤ P' + N → Le f z z'
rounds_mono {f} {z} {z'} {P} {N} {P'} {N'} r r' h =
    let a : hi f z ≤ hi f z' = le_trans (le_of_eq r.hi_is) (le_trans (near_mono (prec f) (P - N) (P' - N') (prec_pos f) (omega arith)) (le_of_eq (sym r'.hi_is))) in
    let b : lo f z' ≤ lo f z = le_trans (le_of_eq r'.lo_is) (le_trans (near_mono (prec f) (N' - P') (N - P) (prec_pos f) (omega arith)) (le_of_eq (sym r.lo_is))) in
    omega arith

-- a value is itself, rounded
pub rounds_self : {f : Format} {x : Float} → Num f x → Rounds f x (hi f x) (lo f x)
rounds_self {f} {x} p = record { num = p; hi_is = sym (hi_fix f x p.fits_x) ∙ ap (λ (n : ℕ). near (prec f) n) (left (one_side f x)); lo_is = sym (lo_fix f x p.fits_x) ∙ ap (λ (n : ℕ). near (prec f) n) (right (one_side f x)) }
  where
    left : (hi f x ≡ 0) ⊎ (lo f x ≡ 0) → hi f x ≡ hi f x - lo f x
    left (inl e) = omega arith
    left (inr e) = omega arith

    right : (hi f x ≡ 0) ⊎ (lo f x ≡ 0) → lo f x ≡ lo f x - hi f x
    right (inl e) = omega arith
    right (inr e) = omega arith

-- the exact P - N is at most c, and so is z
pub rounds_le : {f : Format} {z c : Float} {P N : ℕ} → Rounds f z P N → Num f c → P + lo f c ≤ hi f c + N → Le f z c
rounds_le r p h = rounds_mono r (rounds_self p) h

-- the exact P - N is at least c, and so is z
pub rounds_ge : {f : Format} {z c : Float} {P N : ℕ} → Rounds f z P N → Num f c → hi f c + N ≤ P + lo f c → Le f c z
rounds_ge r p h = rounds_mono (rounds_self p) r h

-- the exact sum lies between two values that the format holds, and so does the rounded one, which is then finite
pub record Between (f : Format) (c z d : Float) : Type 0 where
  pub num : Num f z
  pub from : Le f c z
  pub to : Le f z d

pub rounds_between : {f : Format} {c z d : Float} {P N : ℕ} → Rounds f z P N → Num f c → Num f d → hi f c + N ≤ P + lo f c → P + lo f d ≤ hi f d + N → Between f c z d
rounds_between r p q h k = record { num = r.num; from = rounds_ge r p h; to = rounds_le r q k }

-- ---- the error
-- z is within E units of P - N
pub record Off (f : Format) (z : Float) (P N E : ℕ) : Type 0 where
  pub over : hi f z + N ≤ P + lo f z + E
  pub under : P + lo f z ≤ hi f z + N + E

-- two natural numbers are in order, one way or the other
pub le_or_ge : (a b : ℕ) → (a ≤ b) ⊎ (b ≤ a)
le_or_ge a b = go (leb a b) (leb→le a b) (nleb→lt a b)
  where
    go : (t : Bool) → (T t → a ≤ b) → (T (not t) → b < a) → (a ≤ b) ⊎ (b ≤ a)
    go true h k = inl (h tt)
    go false h k = inr (le_of_lt (k tt))

-- nothing above, or nothing below
flat : (f : Format) (a n m : ℕ) → n ≤ m → a ≡ near (prec f) (n - m) → a ≡ 0
flat f a n m h e = e ∙ ap (λ (x : ℕ). near (prec f) x) (gone n m h) ∙ near_zero (prec f) (prec_pos f)
  where
    gone : (n m : ℕ) → n ≤ m → n - m ≡ 0
    gone n m h = omega arith

pub rounds_err : {f : Format} {z : Float} {P N : ℕ} (j : ℕ) → Rounds f z P N → P < N + 2 ^ (prec f + suc j) → N < P + 2 ^ (prec f + suc j) → Off f z P N (2 ^ j)
rounds_err {f} {z} {P} {N} j r h k = go (le_or_ge P N)
  where
    go : (P ≤ N) ⊎ (N ≤ P) → Off f z P N (2 ^ j)
    go (inl l) =
        let a = flat f (hi f z) P N l r.hi_is in
        let b = r.lo_is in
        let w = near_err (prec f) (N - P) (suc j) (omega arith) in
        omega arith
    go (inr l) =
        let a = flat f (lo f z) N P l r.lo_is in
        let b = r.hi_is in
        let w = near_err (prec f) (P - N) (suc j) (omega arith) in
        omega arith

-- ---- the error: where 2 ^ (prec + 1) * pow2 j units bound the exact result, pow2 j units bound the error. In binary32 the factor is 33554432, 2 ^ 25
pub record Near (f : Format) (z : Float) (P N E : ℕ) : Type 0 where
  pub rounds : Rounds f z P N
  pub off : Off f z P N E

-- ---- exactness: multiples of 2 ^ j units whose sum is at most 2 ^ prec of them
pub record Exactly (f : Format) (z : Float) (p n u : ℕ) : Type 0 where
  pub hi_is : hi f z ≡ (p - n) * u
  pub lo_is : lo f z ≡ (n - p) * u

pub sub_mul : (a b u : ℕ) → a * u - b * u ≡ (a - b) * u
sub_mul a b u = ap (λ (x : ℕ). x - b * u) (mul_comm a u) ∙ ap (λ (x : ℕ). u * a - x) (mul_comm b u) ∙ sym (mul-sub u a b) ∙ mul_comm u (a - b)
