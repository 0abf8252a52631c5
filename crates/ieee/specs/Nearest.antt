-- Rounding to p binary digits, among natural numbers: `rnd p n d` is the multiple of a power of two nearest to n / d that p digits hold, `near p n` that of n.
-- It keeps the order (`-mono`), changes nothing that has p digits (`-fix`), and is off by half of the last kept digit at most (`-err`). Nothing here is about floats.
--
use Rattle.std.specs.Prelude.{◌≡◌, ◌⊎◌, not, T, eqb}
use Rattle.std.proofs.Common.{sym, ap, ◌∙◌, subst, inl, inr, le_trans, le_of_eq, le_antisymm, lt_irrefl, lt_of_le_of_lt, eq-or-lt_of_le, mul_assoc, mul_comm, mul-one, one-mul, mul_right_comm, mul-le-mul_right, mul-le-mul_left, mul-lt-mul_of_pos_right, div-lt_iff_lt-mul, le-div_iff_mul-le, mul-pos, mul-div_cancel, div-add-mod', mod-lt, arith, leb→le, eqb→eq, lit≤, pow-add, pow_pos, pow_mono, shl_lt}
use Prim.Native.Nat.compare
use Prim.Native.Nat.{ℕ, zero, suc, ◌+◌, ◌-◌, ◌*◌, ◌/◌, ◌%◌, ◌^◌, ◌≤◌, ◌<◌, zero-le, compare, Ordering}
use Rattle.std.proofs.Math.Nat.{div-div-eq-div-mul, mul-mod_left}
use Rattle.std.proofs.Math.Dec.{is_le, compare_is_eq, nleb→lt, eqb_refl}
use Rattle.std.proofs.Math.Arith.{lt_of_le-ne}
use Rattle.std.proofs.Math.Pow.{pow-lt}
use lib.Ieee.{size, nearest}
use Rattle.std.specs.Float.Ieee.Digits.{size-lt, size-le, size_reaches, back}
use Rattle.std.specs.Float.Ieee.Fits.{kept-lt, nearest-le}
use Rattle.std.specs.Float.Ieee.Nearest.{closest, closest_mono, nearest-ge, div_mono}
use Rattle.std.specs.Float.Ieee.Order.{drop, kept}

abbrev pub rnd : ℕ → ℕ → ℕ → ℕ
rnd p n d = kept p n d * 2 ^ drop p n d

-- ---- the order (as in `lib.Ieee.Order`, where it is private)
size_mono : (a b : ℕ) → a ≤ b → size a ≤ size b
size_mono a b h = size-le a (size b) (lt_of_le_of_lt h (size-lt b))

same_drop : (k a b c d : ℕ) → 0 < b → 0 < d → a * d ≤ c * b → closest a (b * 2 ^ k) * 2 ^ k ≤ closest c (d * 2 ^ k) * 2 ^ k
same_drop k a b c d B D h =
    mul-le-mul_right (2 ^ k)
    (closest_mono a (b * 2 ^ k) c (d * 2 ^ k) (mul-pos B (pow_pos k)) (mul-pos D (pow_pos k))
    (le_trans (le_of_eq (sym (mul_assoc a d (2 ^ k)))) (le_trans (mul-le-mul_right (2 ^ k) h) (le_of_eq (mul_assoc c b (2 ^ k))))))

pub kept_le : (p n den : ℕ) → kept p n den ≤ 2 ^ p
kept_le p n den =
    let k = drop p n den in
    let u = den * 2 ^ k in
    le_trans (nearest-le (n / u) (compare (n % u * 2) u)) (subst (λ (x : ℕ). x < 2 ^ p) (div-div-eq-div-mul n den (2 ^ k)) (kept-lt p (n / den)))

all_in_use : (z p : ℕ) → 0 < p → 0 < z - p → p - 1 + (z - p) < z
all_in_use z p P h = omega arith

pub kept_ge : (p n den : ℕ) → 0 < p → 0 < drop p n den → 2 ^ (p - 1) ≤ kept p n den
kept_ge p n den P K =
    let k = drop p n den in
    let u = den * 2 ^ k in
    let w = n / den in
    let a : 2 ^ (p - 1) * 2 ^ k ≤ w = le_trans (le_of_eq (sym (pow-add 2 (p - 1) k))) (size_reaches w (p - 1 + k) (all_in_use (size w) p P K)) in
    le_trans (subst (λ (x : ℕ). 2 ^ (p - 1) ≤ x) (div-div-eq-div-mul n den (2 ^ k)) ((le-div_iff_mul-le (pow_pos k)).1 a)) (nearest-ge (n / u) (compare (n % u * 2) u))

fewer : (x y p : ℕ) → x ≤ y → x - p ≤ y - p
fewer x y p h = omega arith

room : (p j k : ℕ) → 0 < p → j < k → p + j ≤ p - 1 + k
room p j k P h = omega arith

pub rnd_mono : (p a b c d : ℕ) → 0 < p → 0 < b → 0 < d → a * d ≤ c * b → rnd p a b ≤ rnd p c d
rnd_mono p a b c d P B D h =
    let j = drop p a b in
    let k = drop p c d in
    elim (eq-or-lt_of_le (fewer (size (a / b)) (size (c / d)) p (size_mono (a / b) (c / d) (div_mono a b c d B D h)))) [
      | inl e ↦ subst (λ (x : ℕ). closest a (b * 2 ^ x) * 2 ^ x ≤ kept p c d * 2 ^ k) (sym e) (same_drop k a b c d B D h)
      | inr l ↦
          le_trans (mul-le-mul_right (2 ^ j) (kept_le p a b))
          (le_trans (le_of_eq (sym (pow-add 2 p j)))
          (le_trans (pow_mono (room p j k P l))
          (le_trans (le_of_eq (pow-add 2 (p - 1) k)) (mul-le-mul_right (2 ^ k) (kept_ge p c d P (lt_of_le_of_lt zero-le l))))))
    ]

-- equal fractions round alike
pub rnd_same : (p a b c d : ℕ) → 0 < p → 0 < b → 0 < d → a * d ≡ c * b → rnd p a b ≡ rnd p c d
rnd_same p a b c d P B D e = le_antisymm (rnd_mono p a b c d P B D (le_of_eq e)) (rnd_mono p c d a b P D B (le_of_eq (sym e)))

-- ---- what `compare` says (as in `lib.Ieee.Nearest`, where it is private)
abbrev pub Cmp : Ordering → ℕ → ℕ → Type 0
Cmp Ordering.lt a b = a < b
Cmp Ordering.eq a b = a ≡ b
Cmp Ordering.gt a b = b < a

pub cmp : (a b : ℕ) → Cmp (compare a b) a b
cmp a b = go (compare a b) (leb→le a b) (nleb→lt a b) (eqb→eq a b) (λ (e : a ≡ b). subst (λ (x : ℕ). T (eqb a x)) e (eqb_refl a))
  where
    go : (o : Ordering) → (T (is_le o) → a ≤ b) → (T (not (is_le o)) → b < a) → (T (compare_is_eq o) → a ≡ b) → (a ≡ b → T (compare_is_eq o)) → Cmp o a b
    go Ordering.lt h k e n = lt_of_le-ne (h tt) n
    go Ordering.eq h k e n = e tt
    go Ordering.gt h k e n = k tt

-- ---- the error of one rounding to a whole number: c * b is within b / 2 of a
abbrev pub Within : ℕ → ℕ → ℕ → Type 0
Within c a b = (c * 2 ≤ a * 2 + b) × (a * 2 ≤ c * 2 + b)

stay : (w b r a : ℕ) → w * b + r ≡ a → r * 2 ≤ b → Within (w * b) a b
stay w b r a e h = omega arith

step : (w b r a : ℕ) → w * b + r ≡ a → r < b → b ≤ r * 2 → Within (suc w * b) a b
step w b r a e l h = omega arith

parity : (w : ℕ) → (w + w % 2 ≡ w) ⊎ (w + w % 2 ≡ suc w)
parity w = go (w % 2) (mod-lt w (lit≤ tt))
  where
    go : (r : ℕ) → r < 2 → (w + r ≡ w) ⊎ (w + r ≡ suc w)
    go zero h = inl (omega arith)
    go (suc zero) h = inr (omega arith)
    go (suc (suc r)) h = absurd (omega arith)

pick : (w b r a : ℕ) (o : Ordering) → Cmp o (r * 2) b → w * b + r ≡ a → r < b → Within (nearest w o * b) a b
pick w b r a Ordering.lt c e l = stay w b r a e (omega arith)
pick w b r a Ordering.eq c e l =
    elim (parity w) [ inl z ↦ subst (λ (x : ℕ). Within (x * b) a b) (sym z) (stay w b r a e (le_of_eq c)) | inr z ↦ subst (λ (x : ℕ). Within (x * b) a b) (sym z) (step w b r a e l (le_of_eq (sym c))) ]
pick w b r a Ordering.gt c e l = step w b r a e l (omega arith)

closest_err : (a b : ℕ) → 0 < b → Within (closest a b * b) a b
closest_err a b B = pick (a / b) b (a % b) a (compare (a % b * 2) b) (cmp (a % b * 2) b) (div-add-mod' a b) (mod-lt a B)

-- ---- the error of `rnd`, for a fraction below 2 ^ (p + j): half of 2 ^ j at most
spare : (z p l : ℕ) → z ≤ p + l → z - p ≤ l
spare z p l h = omega arith

drop_le : (p n d j : ℕ) → 0 < d → n < 2 ^ (p + j) * d → drop p n d ≤ j
drop_le p n d j D h = spare (size (n / d)) p j (size-le (n / d) (p + j) ((div-lt_iff_lt-mul D).1 h))

widen : (c a b e : ℕ) → b ≤ e → Within c a b → Within c a e
widen c a b e h w = omega arith

rnd_err : (p n d j : ℕ) → 0 < d → n < 2 ^ (p + j) * d → Within (rnd p n d * d) n (d * 2 ^ j)
rnd_err p n d j D h =
    let k = drop p n d in
    let u = d * 2 ^ k in
    subst (λ (x : ℕ). Within x n (d * 2 ^ j)) (sym (mul_assoc (kept p n d) d (2 ^ k)) ∙ mul_right_comm (kept p n d) d (2 ^ k))
    (widen (kept p n d * u) n u (d * 2 ^ j) (mul-le-mul_left d (pow_mono (drop_le p n d j D h))) (closest_err n u (mul-pos D (pow_pos k))))

-- ---- what has at most p digits stays
above_zero : (u : ℕ) → 0 < u → compare 0 u ≡ Ordering.lt
above_zero zero h = absurd (lt_irrefl 0 h)
above_zero (suc u) h = compare.zero-suc u

closest_exact : (q u : ℕ) → 0 < u → closest (q * u) u ≡ q
closest_exact q u h =
    ap (λ (x : ℕ). nearest x (compare (q * u % u * 2) u)) (mul-div_cancel q h)
    ∙ ap (λ (x : ℕ). nearest q (compare (x * 2) u)) (mul-mod_left q u)
    ∙ ap (λ (o : Ordering). nearest q o) (above_zero u h)

below_fix : (p q j d : ℕ) → 0 < d → q < 2 ^ p → rnd p (q * 2 ^ j * d) d ≡ q * 2 ^ j
below_fix p q j d D small =
    let n = q * 2 ^ j * d in
    let k = drop p n d in
    let u = d * 2 ^ k in
    let r = q * 2 ^ (j - k) in
    let k-le : k ≤ j = drop_le p n d j D (mul-lt-mul_of_pos_right (shl_lt p j small) D) in
    let e3 : r * 2 ^ k ≡ q * 2 ^ j = mul_assoc q (2 ^ (j - k)) (2 ^ k) ∙ ap (λ (x : ℕ). q * x) (sym (pow-add 2 (j - k) k) ∙ ap (λ (x : ℕ). 2 ^ x) (back j k k-le)) in
    let e2 : n ≡ r * u = ap (λ (x : ℕ). x * d) (sym e3) ∙ mul_assoc r (2 ^ k) d ∙ ap (λ (x : ℕ). r * x) (mul_comm (2 ^ k) d) in
    ap (λ (x : ℕ). closest x u * 2 ^ k) e2 ∙ ap (λ (x : ℕ). x * 2 ^ k) (closest_exact r u (mul-pos D (pow_pos k))) ∙ e3

pub rnd_fix : (p q j d : ℕ) → 0 < p → 0 < d → q ≤ 2 ^ p → rnd p (q * 2 ^ j * d) d ≡ q * 2 ^ j
rnd_fix p q j d P D h = elim (eq-or-lt_of_le h) [ inl e ↦ subst (λ (x : ℕ). rnd p (x * d) d ≡ x) (sym (turn e)) (below_fix p 1 (p + j) d D (pow-lt P)) | inr l ↦ below_fix p q j d D l ]
  where
    turn : q ≡ 2 ^ p → q * 2 ^ j ≡ 1 * 2 ^ (p + j)
    turn e = ap (λ (x : ℕ). x * 2 ^ j) e ∙ sym (pow-add 2 p j) ∙ sym (one-mul (2 ^ (p + j)))

-- ---- whole numbers: `near p n` is n rounded to p digits
unfoldable pub near : ℕ → ℕ → ℕ
near p n = rnd p n 1

pub near_is : (p n d : ℕ) → 0 < p → 0 < d → rnd p (n * d) d ≡ near p n
unfolding near
near_is p n d P D = rnd_same p (n * d) d n 1 P D (lit≤ tt) (mul-one (n * d))

pub near_mono : (p a b : ℕ) → 0 < p → a ≤ b → near p a ≤ near p b
unfolding near
near_mono p a b P h = rnd_mono p a 1 b 1 P (lit≤ tt) (lit≤ tt) (mul-le-mul_right 1 h)

pub near_fix : (p q j : ℕ) → 0 < p → q ≤ 2 ^ p → near p (q * 2 ^ j) ≡ q * 2 ^ j
unfolding near
near_fix p q j P h = subst (λ (x : ℕ). rnd p x 1 ≡ q * 2 ^ j) (mul-one (q * 2 ^ j)) (rnd_fix p q j 1 P (lit≤ tt) h)

pub near_zero : (p : ℕ) → 0 < p → near p 0 ≡ 0
near_zero p P = near_fix p 0 0 P zero-le

pub near_err : (p n j : ℕ) → n < 2 ^ (p + j) → Within (near p n) n (2 ^ j)
unfolding near
near_err p n j h =
    subst (λ (x : ℕ). Within x n (2 ^ j)) (mul-one (rnd p n 1))
    (subst (λ (x : ℕ). Within (rnd p n 1 * 1) n x) (one-mul (2 ^ j)) (rnd_err p n 1 j (lit≤ tt) (subst (λ (x : ℕ). n < x) (sym (mul-one (2 ^ (p + j)))) h)))
