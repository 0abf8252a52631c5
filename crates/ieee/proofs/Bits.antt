-- Bit patterns. q * 2 ^ k units, q having at most prec digits, and all of them where k is above 0, have the pattern k * hid + q with the sign before it (`units_bits`):
-- the leading digit adds one to the exponent's field, and a carry out of the digits gives the next field, up to the infinity's (`inf_bits`).
-- So the pattern of a fraction's rounded value is one sum (`round_bits`), up to overflow (`round_over`).
use Rattle.std.specs.Prelude.{◌≡◌, refl, ◌⊎◌, Bool, true, false, not, cond, ℕ, suc, ◌+◌, ◌-◌, ◌*◌, ◌/◌, ◌^◌, ◌≤◌, ◌<◌, T, ltb, Float}
use Rattle.std.proofs.Common.{sym, ap, ◌∙◌, subst, inl, inr, true≢false, le_trans, le_of_eq, le_antisymm, lt_irrefl, lt_of_lt_of_le, lt_of_le_of_lt, lt_of_not-le, eq-or-lt_of_le, le_of_mul-le-mul_right, mul_assoc, mul-one, mul-div_cancel, mul-le-mul_right, add_assoc, one-mul, mul-pos, eq-zero-or-pos, pow-suc, arith, ltb→lt, nltb→le, pow-add, pow_pos, pow_mono, shl_lt}
use Rattle.std.proofs.Math.Dec.{not_T}
use Rattle.std.proofs.Math.Pow.{pow-lt}
use Rattle.std.specs.Float.{nan, inf, fin, Format}
use Rattle.std.specs.Float.Ieee.{is_nan, ne, prec, emax, low, up, down, size, odd, units, round, hid, ones, top, of_bits, to_bits}
use Rattle.std.specs.Float.Ieee.Digits.{size-lt, size-le}
use Rattle.std.specs.Float.Ieee.Fits.{two, down_pos, odd-fits, inf-fits, round_is}
use Rattle.std.specs.Float.Ieee.Nearest.{closest, closest_same, div_same}
use Rattle.std.specs.Float.Ieee.Order.{drop, kept}
use Rattle.std.specs.Float.Ieee.Exact.{HasValue, odd_sign}
use Rattle.std.specs.Float.Ieee.Scale.{overflow}
use Rattle.std.specs.Float.Ieee.Bits.{of_bits-to_bits, cond_no}
use Rattle.std.specs.Float.Ieee.Compare.{nan_differs}
use Rattle.ieee.specs.Nearest.{rnd, rnd_mono, rnd_fix, kept_le, kept_ge}
use Rattle.ieee.specs.Value.{pow_cancel}
use Rattle.ieee.specs.Rounding.{prec_pos}

-- ---- a float that does not differ from itself is no NaN
pub number : (x : Float) → ne x x ≡ false → T (not (is_nan x))
unfolding is_nan
number nan e = absurd (true≢false (sym nan_differs ∙ e))
number (inf s) e = tt
number (fin s m d) e = tt

-- ---- a number's size
pub size_exact : (a n : ℕ) → 2 ^ a ≤ n → n < 2 ^ suc a → size n ≡ suc a
size_exact a n h k = le_antisymm (size-le n (suc a) k) (lt_of_not-le (λ (g : size n ≤ a). lt_irrefl n (lt_of_lt_of_le (size-lt n) (le_trans (pow_mono g) h))))

-- ---- the pattern of a number of units, without the sign
pattern : ℕ → ℕ → ℕ
pattern p n = (size n - p) * 2 ^ (p - 1) + n / 2 ^ (size n - p)

pattern_at : (p n k w : ℕ) → size n - p ≡ k → n ≡ w * 2 ^ k → pattern p n ≡ k * 2 ^ (p - 1) + w
unfolding pattern
pattern_at p n k w z e = ap (λ (j : ℕ). j * 2 ^ (p - 1) + n / 2 ^ j) z ∙ ap (λ (x : ℕ). k * 2 ^ (p - 1) + x / 2 ^ k) e ∙ ap (λ (x : ℕ). k * 2 ^ (p - 1) + x) (mul-div_cancel w (pow_pos k))

double : (p : ℕ) → 0 < p → 2 ^ p ≡ 2 ^ (p - 1) * 2
double p h = ap (λ (x : ℕ). 2 ^ x) (up p h) ∙ pow-suc 2 (p - 1)
  where
    up : (p : ℕ) → 0 < p → p ≡ suc (p - 1)
    up p h = omega arith

pattern_is : (p q k : ℕ) → 0 < p → q ≤ 2 ^ p → (k ≡ 0) ⊎ (2 ^ (p - 1) ≤ q) → pattern p (q * 2 ^ k) ≡ k * 2 ^ (p - 1) + q
pattern_is p q k P h g = elim (eq-or-lt_of_le h) [ inl e ↦ full e | inr l ↦ less l g ]
  where
    none : (z p : ℕ) → z ≤ p → z - p ≡ 0
    none z p h = omega arith

    same : (p k : ℕ) → 0 < p → suc (p - 1 + k) - p ≡ k
    same p k P = omega arith

    lead : (p k : ℕ) → 0 < p → p + k ≡ suc (p - 1 + k)
    lead p k P = omega arith

    next : (p k : ℕ) → suc (p + k) - p ≡ suc k
    next p k = omega arith

    split : (p k : ℕ) → 0 < p → p + k ≡ p - 1 + suc k
    split p k P = omega arith

    carry : (k a b : ℕ) → b ≡ a * 2 → suc k * a + a ≡ k * a + b
    carry k a b e = omega arith

    less : q < 2 ^ p → (k ≡ 0) ⊎ (2 ^ (p - 1) ≤ q) → pattern p (q * 2 ^ k) ≡ k * 2 ^ (p - 1) + q
    less l (inl o) = pattern_at p (q * 2 ^ k) k q (none (size (q * 2 ^ k)) p (size-le (q * 2 ^ k) p (subst (λ (j : ℕ). q * 2 ^ j < 2 ^ p) (sym o) (lt_of_le_of_lt (le_of_eq (mul-one q)) l))) ∙ sym o) refl
    less l (inr m) =
        pattern_at p (q * 2 ^ k) k q
        (ap (λ (z : ℕ). z - p) (size_exact (p - 1 + k) (q * 2 ^ k) (le_trans (le_of_eq (pow-add 2 (p - 1) k)) (mul-le-mul_right (2 ^ k) m)) (lt_of_lt_of_le (shl_lt p k l) (le_of_eq (ap (λ (x : ℕ). 2 ^ x) (lead p k P))))) ∙ same p k P) refl

    full : q ≡ 2 ^ p → pattern p (q * 2 ^ k) ≡ k * 2 ^ (p - 1) + q
    full e =
        let n : q * 2 ^ k ≡ 2 ^ (p + k) = ap (λ (x : ℕ). x * 2 ^ k) e ∙ sym (pow-add 2 p k) in
        pattern_at p (q * 2 ^ k) (suc k) (2 ^ (p - 1))
        (ap (λ (z : ℕ). z - p) (size_exact (p + k) (q * 2 ^ k) (le_of_eq (sym n)) (lt_of_le_of_lt (le_of_eq n) (pow-lt (le_of_eq refl)))) ∙ next p k)
        (n ∙ ap (λ (x : ℕ). 2 ^ x) (split p k P) ∙ pow-add 2 (p - 1) (suc k))
        ∙ carry k (2 ^ (p - 1)) q (e ∙ double p P)

-- ---- the pattern of a value
value_bits : (f : Format) (x : Float) (s : Bool) (n : ℕ) → HasValue x s n (2 ^ low f) → to_bits f x ≡ cond s (top f) 0 + pattern (prec f) n
unfolding to_bits pattern
value_bits f nan s n v = absurd v
value_bits f (inf t) s n v = absurd v
value_bits f (fin t m e) s n v =
    let w : ℕ = m * up e * 2 ^ low f / down e in
    ap (λ (b : Bool). cond b (top f) 0 + (size w - prec f) * hid f + w / 2 ^ (size w - prec f)) v.0
    ∙ ap (λ (k : ℕ). cond s (top f) 0 + (size k - prec f) * hid f + k / 2 ^ (size k - prec f)) (ap (λ (x : ℕ). x / down e) v.1 ∙ mul-div_cancel n (down_pos e))
    ∙ add_assoc (cond s (top f) 0) ((size n - prec f) * hid f) (n / 2 ^ (size n - prec f))

inf_written : (f : Format) (s : Bool) → to_bits f (inf s) ≡ cond s (top f) 0 + ones f * hid f
unfolding to_bits
inf_written f s = refl

pub inf_bits : (f : Format) (s : Bool) → of_bits f (cond s (top f) 0 + ones f * hid f) ≡ inf s
inf_bits f s = ap (λ (b : ℕ). of_bits f b) (sym (inf_written f s)) ∙ of_bits-to_bits f (inf s) (inf-fits f s)

-- q * 2 ^ k overflows only at the infinity's pattern, for a k below the last field
carried : (f : Format) (q k : ℕ) → q ≤ 2 ^ prec f → k + 2 ≤ ones f → overflow f ≤ q * 2 ^ k → k * hid f + q ≡ ones f * hid f
carried f q k h g o =
    let u : low f + suc (emax f) ≤ prec f + k = pow_cancel (low f + suc (emax f)) (prec f + k) (le_trans o (le_trans (mul-le-mul_right (2 ^ k) h) (le_of_eq (sym (pow-add 2 (prec f) k))))) in
    let v : k + 2 ≡ ones f = last (prec f) (emax f) k (two f) u g in
    let w : prec f + k ≡ low f + suc (emax f) = reach (prec f) (emax f) k (two f) v in
    let x : 2 ^ prec f ≤ q = le_of_mul-le-mul_right (le_trans (le_of_eq (sym (pow-add 2 (prec f) k) ∙ ap (λ (z : ℕ). 2 ^ z) w)) o) (pow_pos k) in
    let y : q ≡ hid f * 2 = le_antisymm h x ∙ double (prec f) (prec_pos f) in
    total k (hid f) q y ∙ ap (λ (z : ℕ). z * hid f) v
  where
    last : (p e k : ℕ) → 2 ≤ p → e + p - 2 + suc e ≤ p + k → k + 2 ≤ 2 * e + 1 → k + 2 ≡ 2 * e + 1
    last p e k h u g = omega arith

    reach : (p e k : ℕ) → 2 ≤ p → k + 2 ≡ 2 * e + 1 → p + k ≡ e + p - 2 + suc e
    reach p e k h v = omega arith

    total : (k h q : ℕ) → q ≡ h * 2 → k * h + q ≡ (k + 2) * h
    total k h q e = omega arith

pub units_bits : (f : Format) (s : Bool) (q k : ℕ) → q ≤ 2 ^ prec f → (k ≡ 0) ⊎ (2 ^ (prec f - 1) ≤ q) → k + 2 ≤ ones f → of_bits f (cond s (top f) 0 + (k * hid f + q)) ≡ units f s q k
unfolding units
units_bits f s q k h g r = go (ltb (q * 2 ^ k) (overflow f)) (ltb→lt (q * 2 ^ k) (overflow f)) (nltb→le (q * 2 ^ k) (overflow f))
  where
    go : (b : Bool) → (T b → q * 2 ^ k < overflow f) → (T (not b) → overflow f ≤ q * 2 ^ k) → of_bits f (cond s (top f) 0 + (k * hid f + q)) ≡ cond b (odd (suc (prec f)) s q k (low f)) (inf s)
    go true l m =
        let x = odd (suc (prec f)) s q k (low f) in
        let e : to_bits f x ≡ cond s (top f) 0 + (k * hid f + q) = value_bits f x s (q * 2 ^ k) (odd_sign (suc (prec f)) s q k (low f)) ∙ ap (λ (n : ℕ). cond s (top f) 0 + n) (pattern_is (prec f) q k (prec_pos f) h g) in
        ap (λ (n : ℕ). of_bits f n) (sym e) ∙ of_bits-to_bits f x (odd-fits f (suc (prec f)) s q k (lt_of_le_of_lt h (pow-lt (le_of_eq refl))) h (l tt))
    go false l m = ap (λ (n : ℕ). of_bits f (cond s (top f) 0 + n)) (carried f q k h r (m tt)) ∙ inf_bits f s

-- ---- the pattern of w * 2 ^ k over 2 ^ (low + c), rounded: j digits of it are dropped, and what is kept is w over 2 ^ d
module _ (f : Format) (w k c d j : ℕ) (z : size (w * 2 ^ k / 2 ^ c) - prec f ≡ j) (x : k + d ≡ c + j) where
  drop_is : drop (prec f) (w * 2 ^ k * 2 ^ low f) (2 ^ (low f + c)) ≡ j
  drop_is =
      ap (λ (n : ℕ). size n - prec f)
      (div_same (w * 2 ^ k * 2 ^ low f) (2 ^ (low f + c)) (w * 2 ^ k) (2 ^ c) (pow_pos (low f + c)) (pow_pos c) (mul_assoc (w * 2 ^ k) (2 ^ low f) (2 ^ c) ∙ ap (λ (n : ℕ). w * 2 ^ k * n) (sym (pow-add 2 (low f) c))))
      ∙ z

  kept_is : kept (prec f) (w * 2 ^ k * 2 ^ low f) (2 ^ (low f + c)) ≡ closest w (2 ^ d)
  kept_is =
      ap (λ (n : ℕ). closest (w * 2 ^ k * 2 ^ low f) (2 ^ (low f + c) * 2 ^ n)) drop_is
      ∙ closest_same (w * 2 ^ k * 2 ^ low f) (2 ^ (low f + c) * 2 ^ j) w (2 ^ d) (mul-pos (pow_pos (low f + c)) (pow_pos j)) (pow_pos d)
      (fold w k (low f) d ∙ ap (λ (n : ℕ). w * 2 ^ n) (level k (low f) d c j x) ∙ ap (λ (n : ℕ). w * n) (pow-add 2 (low f + c) j))
    where
      fold : (w a b c : ℕ) → w * 2 ^ a * 2 ^ b * 2 ^ c ≡ w * 2 ^ (a + b + c)
      fold w a b c =
          ap (λ (n : ℕ). n * 2 ^ c) (mul_assoc w (2 ^ a) (2 ^ b) ∙ ap (λ (n : ℕ). w * n) (sym (pow-add 2 a b)))
          ∙ mul_assoc w (2 ^ (a + b)) (2 ^ c)
          ∙ ap (λ (n : ℕ). w * n) (sym (pow-add 2 (a + b) c))

      level : (k l d c j : ℕ) → k + d ≡ c + j → k + l + d ≡ l + c + j
      level k l d c j x = omega arith

  pub closest_le : closest w (2 ^ d) ≤ 2 ^ prec f
  closest_le = subst (λ (n : ℕ). n ≤ 2 ^ prec f) kept_is (kept_le (prec f) (w * 2 ^ k * 2 ^ low f) (2 ^ (low f + c)))

  pub round_bits : (s : Bool) → j + 2 ≤ ones f → of_bits f (cond s (top f) 0 + (j * hid f + closest w (2 ^ d))) ≡ round f s (w * 2 ^ k) (2 ^ (low f + c))
  round_bits s r =
      let n = w * 2 ^ k * 2 ^ low f in
      let D = 2 ^ (low f + c) in
      let q = kept (prec f) n D in
      let i = drop (prec f) n D in
      ap (λ (a : ℕ). of_bits f (cond s (top f) 0 + (a * hid f + closest w (2 ^ d)))) (sym drop_is)
      ∙ ap (λ (b : ℕ). of_bits f (cond s (top f) 0 + (i * hid f + b))) (sym kept_is)
      ∙ units_bits f s q i (kept_le (prec f) n D) (elim (eq-zero-or-pos i) [ inl e ↦ inl e | inr h ↦ inr (kept_ge (prec f) n D (prec_pos f) h) ]) (subst (λ (a : ℕ). a + 2 ≤ ones f) (sym drop_is) r)
      ∙ sym (round_is f s (w * 2 ^ k) D)

-- from 2 ^ (emax + 1) on it is the infinity
pub round_over : (f : Format) (s : Bool) (n c : ℕ) → 2 ^ (low f + suc (emax f) + c) ≤ n → round f s n (2 ^ (low f + c)) ≡ inf s
unfolding units
round_over f s n c h =
    round_is f s n (2 ^ (low f + c))
    ∙ cond_no (ltb (kept (prec f) (n * 2 ^ low f) D * 2 ^ drop (prec f) (n * 2 ^ low f) D) (overflow f)) (odd (suc (prec f)) s (kept (prec f) (n * 2 ^ low f) D) (drop (prec f) (n * 2 ^ low f) D) (low f)) (inf s)
    (le→nltb (overflow f) (rnd (prec f) (n * 2 ^ low f) D) over)
  where
    D : ℕ
    D = 2 ^ (low f + c)

    le→nltb : (a b : ℕ) → a ≤ b → T (not (ltb b a))
    le→nltb a b h = not_T (ltb b a) (λ (t : T (ltb b a)). lt_irrefl a (lt_of_le_of_lt h (ltb→lt b a t)))

    enough : 1 * overflow f * 2 ^ (low f + c) ≤ n * 2 ^ low f
    enough =
        le_trans (le_of_eq (ap (λ (x : ℕ). x * 2 ^ (low f + c)) (one-mul (overflow f)) ∙ sym (pow-add 2 (low f + suc (emax f)) (low f + c)) ∙ ap (λ (x : ℕ). 2 ^ x) (swap (low f + suc (emax f)) (low f) c) ∙ pow-add 2 (low f + suc (emax f) + c) (low f)))
        (mul-le-mul_right (2 ^ low f) h)
      where
        swap : (a l c : ℕ) → a + (l + c) ≡ a + c + l
        swap a l c = omega arith

    over : overflow f ≤ rnd (prec f) (n * 2 ^ low f) (2 ^ (low f + c))
    over =
        le_trans (le_of_eq (sym (rnd_fix (prec f) 1 (low f + suc (emax f)) (2 ^ (low f + c)) (prec_pos f) (pow_pos (low f + c)) (pow_pos (prec f)) ∙ one-mul (overflow f))))
        (rnd_mono (prec f) (1 * overflow f * 2 ^ (low f + c)) (2 ^ (low f + c)) (n * 2 ^ low f) (2 ^ (low f + c)) (prec_pos f) (pow_pos (low f + c)) (pow_pos (low f + c)) (mul-le-mul_right (2 ^ (low f + c)) enough))
