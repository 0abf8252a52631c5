-- P7: "In transitions .. 64 and 32 become 2^(length-1) and 2^(length-2)": the output of the input u at the state s is the parity of
-- 2^(length-1) u + s under the generator, and the next state is 2^(length-2) u + s/2, for every length.
use Rattle.std.specs.Prelude.{◌≡◌}
use Rattle.std.proofs.Math.Path.{refl, sym, ap}
use Rattle.std.proofs.Common.{◌∙◌, mul_comm, mul_assoc, add_assoc, mod-lt, div-lt_iff_lt-mul}
use Prim.Native.Nat.{ℕ, zero, suc, ◌+◌, ◌-◌, ◌*◌, ◌/◌, ◌%◌, ◌^◌, ◌<◌, ◌≤◌, min}
use native.Mathlib.Omega.{arith}
use Rattle.std.proofs.Math.Nat.{pow-suc, div-div-eq-div-mul}
use Rattle.std.specs.Int.Bits.{bit_and, and_step}
use Rattle.std.proofs.lemmas.Nat.{and_le_l}
use Rattle.trellis.specs.Code.{Code, half, stage, tapped, output, moved}
use Rattle.trellis.specs.Parity.{ones}

-- of two bits the lesser is their product
bits_min : (x y : ℕ) → x < 2 → y < 2 → (min x y ≡ y * x) × (y * x < 2)
bits_min zero zero h g = (refl, omega arith)
bits_min zero (suc zero) h g = (refl, omega arith)
bits_min zero (suc (suc y)) h g = absurd (omega arith)
bits_min (suc zero) zero h g = (refl, omega arith)
bits_min (suc zero) (suc zero) h g = (refl, omega arith)
bits_min (suc zero) (suc (suc y)) h g = absurd (omega arith)
bits_min (suc (suc x)) zero h g = absurd (omega arith)
bits_min (suc (suc x)) (suc y) h g = absurd (omega arith)

halves : (y b p : ℕ) → y ≡ b * 2 + p → p < 2 → (y / 2 ≡ b) × (y % 2 ≡ p)
halves y b p e h = (omega arith, omega arith)

-- the lowest digit of both, and the rest
ones_and : (n x g : ℕ) → ones (suc n) (bit_and x g) ≡ ones n (bit_and (x / 2) (g / 2)) + g % 2 * (x % 2)
unfolding ones
ones_and n x g =
    let m = bits_min (x % 2) (g % 2) (omega arith) (omega arith) in
    let b = bit_and (x / 2) (g / 2) in
    let d = halves (bit_and x g) b (g % 2 * (x % 2)) (and_step x g ∙ ap (λ (y : ℕ). b * 2 + y) m.0) m.1 in
    rw (d.0, d.1) refl

ones_zero : (y : ℕ) → ones 0 y ≡ 0
unfolding ones
ones_zero y = refl

twice : (n u : ℕ) → 2 ^ suc n * u ≡ 2 ^ n * u * 2
twice n u = ap (λ (y : ℕ). y * u) (pow-suc 2 n) ∙ mul_assoc (2 ^ n) 2 u ∙ ap (λ (y : ℕ). 2 ^ n * y) (mul_comm 2 u) ∙ sym (mul_assoc (2 ^ n) u 2)

-- digits above the highest are 0
ones_none : (n : ℕ) → ones n 0 ≡ 0
unfolding ones
ones_none zero = refl
ones_none (suc n) = rw (ones_none n) refl

ones_more : (n m y : ℕ) → y < 2 ^ n → ones (n + m) y ≡ ones n y
unfolding ones
ones_more zero m y h = let z : y ≡ 0 = omega arith in rw z (ones_none (0 + m))
ones_more (suc n) m y h =
    let p : 2 ^ suc n ≡ 2 ^ n * 2 = pow-suc 2 n in
    let e : suc n + m ≡ suc (n + m) = omega arith in
    rw (e, ones_more n m (y / 2) (omega arith)) refl

-- a register that is one shorter: the lowest digit of all numbers is off
module _ (a b : ℕ) where
  abbrev code : ℕ → Code
  code k = record { constraint = k; g1 = a; g2 = b }

  stage_shorter : (n x i : ℕ) → i ≤ n → stage (code (suc (suc n))) x i ≡ stage (code (suc n)) (x / 2) i
  stage_shorter n x i h =
      let m = suc n - 1 - i in
      let e : suc (suc n) - 1 - i ≡ suc m = omega arith in
      let p : 2 ^ suc m ≡ 2 * 2 ^ m = pow-suc 2 m ∙ mul_comm (2 ^ m) 2 in
      rw (e, p) (ap (λ (y : ℕ). y % 2) (sym (div-div-eq-div-mul x 2 (2 ^ m))))

  tapped_shorter : (n g s k : ℕ) → k ≤ n → tapped (code (suc (suc n))) g s k ≡ tapped (code (suc n)) (g / 2) (s / 2) k
  unfolding tapped
  tapped_shorter n g s zero h = refl
  tapped_shorter n g s (suc k) h = rw (tapped_shorter n g s k (omega arith), stage_shorter n g (suc k) h, stage_shorter n s (suc k) h) refl

  stage_last : (n x : ℕ) → stage (code (suc (suc n))) x (suc n) ≡ x % 2
  stage_last n x = let e : suc (suc n) - 1 - suc n ≡ 0 = omega arith in rw e (omega arith)

  sum_ones : (n g u s : ℕ) → u < 2 → s < 2 ^ n → stage (code (suc n)) g 0 * u + tapped (code (suc n)) g s n ≡ ones (suc n) (bit_and (2 ^ n * u + s) g)
  unfolding tapped
  sum_ones zero g u s hu hs =
      let z : (1 * u + s) % 2 ≡ u = omega arith in
      let d : g / 1 ≡ g = omega arith in
      sym (ones_and 0 (1 * u + s) g ∙ rw (ones_zero (bit_and ((1 * u + s) / 2) (g / 2)), z, d) (omega arith))
  sum_ones (suc n) g u s hu hs =
      let p = twice n u in
      let q : 2 ^ suc n ≡ 2 ^ n * 2 = pow-suc 2 n in
      let d : (2 ^ suc n * u + s) / 2 ≡ 2 ^ n * u + s / 2 = omega arith in
      let m : (2 ^ suc n * u + s) % 2 ≡ s % 2 = omega arith in
      rw (ones_and (suc n) (2 ^ suc n * u + s) g, d, m, stage_shorter n g 0 (omega arith), tapped_shorter n g s n (omega arith), stage_last n g, stage_last n s)
      (sym (add_assoc (stage (code (suc n)) (g / 2) 0 * u) (tapped (code (suc n)) (g / 2) (s / 2) n) (g % 2 * (s % 2)))
      ∙ ap (λ (y : ℕ). y + g % 2 * (s % 2)) (sum_ones n (g / 2) u (s / 2) hu (omega arith)))

  output_at : (k g u s : ℕ) → 1 ≤ k → u < 2 → s < 2 ^ (k - 1) → output (code k) g u s ≡ ones k (bit_and (2 ^ (k - 1) * u + s) g) % 2
  unfolding output
  output_at zero g u s h hu hs = absurd (omega arith)
  output_at (suc n) g u s h hu hs =
      let e : suc n - 1 ≡ n = omega arith in
      rw e (ap (λ (y : ℕ). y % 2) (rw e at (sum_ones n g u s hu (rw e at hs))))

-- a register's number
pub register : (p u s : ℕ) → u < 2 → s < p → p * u + s < 2 * p
register p zero s h g = omega arith
register p (suc zero) s h g = omega arith
register p (suc (suc u)) s h g = absurd (omega arith)

-- "parities .. under" the generator: of at most 8 digits, as a byte has them
pub output_parity : (c : Code) (g u s : ℕ) → 3 ≤ c.constraint → c.constraint ≤ 7 → u < 2 → s < 2 ^ (c.constraint - 1)
    → output c g u s ≡ ones 8 (bit_and (2 ^ (c.constraint - 1) * u + s) g) % 2
output_parity c g u s least most hu hs =
    let k = c.constraint in
    let p = 2 ^ (k - 1) in
    let x = p * u + s in
    let e : k ≡ suc (k - 1) = omega arith in
    let q : 2 ^ k ≡ p * 2 = ap (λ (y : ℕ). 2 ^ y) e ∙ pow-suc 2 (k - 1) in
    let r = register p u s hu hs in
    let l = and_le_l x g in
    let eight : k + (8 - k) ≡ 8 = omega arith in
    let more : ones 8 (bit_and x g) ≡ ones k (bit_and x g) = rw eight at (ones_more k (8 - k) (bit_and x g) (omega arith)) in
    output_at c.g1 c.g2 k g u s (omega arith) hu hs ∙ ap (λ (y : ℕ). y % 2) (sym more)

pub next_state_lem : (c : Code) (u s : ℕ) → 2 ≤ c.constraint → (moved (half c) u s ≡ 2 ^ (c.constraint - 2) * u + s / 2) × (moved (half c) u s ≡ (2 ^ (c.constraint - 1) * u + s) / 2)
next_state_lem c u s h =
    let e : c.constraint - 1 ≡ suc (c.constraint - 2) = omega arith in
    let p = twice (c.constraint - 2) u in
    (refl, rw e (omega arith))

-- a state below 2 h by its top bit and the rest
pub two_halves : (h k : ℕ) → 1 ≤ h → k < 2 * h → (k / h < 2) × (k % h < h)
two_halves h k some l = ((div-lt_iff_lt-mul {k = h} {x = k} {y = 2} some).1 l, mod-lt k some)
