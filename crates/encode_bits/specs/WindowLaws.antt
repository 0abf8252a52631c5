-- The windows of a number are the registers of successive steps: the states, and the outputs.
use Rattle.std.specs.Prelude.{◌≡◌, refl, Bool, List, T, eqb}
use Rattle.std.proofs.Math.Path.{sym, ap}
use Rattle.std.proofs.Common.{◌∙◌, add_comm, mod-eq_of_lt, div-one, pow_pos, pow-add, shr-shr}
use Prim.Native.Nat.{ℕ, zero, suc, ◌+◌, ◌-◌, ◌*◌, ◌/◌, ◌%◌, ◌^◌, ◌<◌, ◌≤◌}
use Rattle.std.proofs.Math.Nat.{sub-zero, mul-add-div_right}
use native.Mathlib.Omega.{arith}
use Rattle.std.specs.Int.Bits.{bit_xor}
use Rattle.std.proofs.lemmas.Nat.{xor_shr, xor_lt, shr_le}
use Rattle.std.proofs.Math.Dec.{eqb→eq}
use Rattle.std.proofs.Math.ListN.{get_or}
use Rattle.std.proofs.Math.Pow.{high}
use Rattle.trellis.specs.Code.{isdb, output, tapped, label, moved, state_at}
use Rattle.trellis.proofs.LinearLaws.{xor_low}
use Rattle.trellis.specs.ListLaws.{every, every_at}
use Rattle.encode_bits.specs.Windows.{backward, x_outputs, y_outputs, outputs_in}
use Rattle.trellis.specs.Isdb

-- ---- digits
-- digits below the i-th do not see what is added at the i-th
pub digit_low : (a y i j : ℕ) → j < i → (a * 2 ^ i + y) / 2 ^ j % 2 ≡ y / 2 ^ j % 2
digit_low a y i j h =
    let k = i - suc j in
    let e : i ≡ suc k + j = omega arith in
    let p : 2 ^ i ≡ 2 ^ suc k * 2 ^ j = ap (λ (x : ℕ). 2 ^ x) e ∙ pow-add 2 (suc k) j in
    let d : 2 ^ suc k ≡ 2 * 2 ^ k = omega arith in
    let q : a * 2 ^ i + y ≡ 2 * (a * 2 ^ k) * 2 ^ j + y = rw (p, d) (omega arith) in
    rw (q, mul-add-div_right (pow_pos j) (2 * (a * 2 ^ k)) y) (omega arith)

pub digit_high : (a y i j : ℕ) → y < 2 ^ i → (a * 2 ^ i + y) / 2 ^ (i + j) ≡ a / 2 ^ j
digit_high a y i j h = sym (shr-shr (a * 2 ^ i + y) i j) ∙ ap (λ (x : ℕ). x / 2 ^ j) (high a i h)

-- ---- what X and Y sum
shift_under : (z i j : ℕ) → z / 2 ^ i / 2 ^ j ≡ z / 2 ^ j / 2 ^ i
shift_under z i j = shr-shr z i j ∙ ap (λ (x : ℕ). z / 2 ^ x) (add_comm i j) ∙ sym (shr-shr z j i)

odd_sum : (a b x y : ℕ) → a % 2 ≡ x % 2 → b % 2 ≡ y % 2 → (a + b) % 2 ≡ (x + y) % 2
odd_sum a b x y e f = omega arith

sums : (w a b c d p q r t : ℕ) → p % 2 ≡ (w + a) % 2 → q % 2 ≡ (p + b) % 2 → r % 2 ≡ (q + c) % 2 → t % 2 ≡ (r + d) % 2 → t % 2 ≡ (w + a + b + c + d) % 2
sums w a b c d p q r t f1 f2 f3 f4 =
    let g2 = f2 ∙ odd_sum p b (w + a) b f1 refl in
    let g3 = f3 ∙ odd_sum q c (w + a + b) c g2 refl in
    f4 ∙ odd_sum r d (w + a + b + c) d g3 refl

sum_digit : (z a b c d j : ℕ)
    → bit_xor (bit_xor (bit_xor (bit_xor z (z / 2 ^ a)) (z / 2 ^ b)) (z / 2 ^ c)) (z / 2 ^ d) / 2 ^ j % 2
    ≡ (z / 2 ^ j + z / 2 ^ j / 2 ^ a + z / 2 ^ j / 2 ^ b + z / 2 ^ j / 2 ^ c + z / 2 ^ j / 2 ^ d) % 2
sum_digit z a b c d j =
    let w = z / 2 ^ j in
    let p = bit_xor z (z / 2 ^ a) in
    let q = bit_xor p (z / 2 ^ b) in
    let r = bit_xor q (z / 2 ^ c) in
    let e1 : p / 2 ^ j ≡ bit_xor w (w / 2 ^ a) = xor_shr z (z / 2 ^ a) j ∙ ap (λ (x : ℕ). bit_xor w x) (shift_under z a j) in
    let e2 : q / 2 ^ j ≡ bit_xor (p / 2 ^ j) (w / 2 ^ b) = xor_shr p (z / 2 ^ b) j ∙ ap (λ (x : ℕ). bit_xor (p / 2 ^ j) x) (shift_under z b j) in
    let e3 : r / 2 ^ j ≡ bit_xor (q / 2 ^ j) (w / 2 ^ c) = xor_shr q (z / 2 ^ c) j ∙ ap (λ (x : ℕ). bit_xor (q / 2 ^ j) x) (shift_under z c j) in
    let e4 : bit_xor r (z / 2 ^ d) / 2 ^ j ≡ bit_xor (r / 2 ^ j) (w / 2 ^ d) = xor_shr r (z / 2 ^ d) j ∙ ap (λ (x : ℕ). bit_xor (r / 2 ^ j) x) (shift_under z d j) in
    let f1 : p / 2 ^ j % 2 ≡ (w + w / 2 ^ a) % 2 = rw e1 (xor_low w (w / 2 ^ a)) in
    let f2 : q / 2 ^ j % 2 ≡ (p / 2 ^ j + w / 2 ^ b) % 2 = rw e2 (xor_low (p / 2 ^ j) (w / 2 ^ b)) in
    let f3 : r / 2 ^ j % 2 ≡ (q / 2 ^ j + w / 2 ^ c) % 2 = rw e3 (xor_low (q / 2 ^ j) (w / 2 ^ c)) in
    let f4 : bit_xor r (z / 2 ^ d) / 2 ^ j % 2 ≡ (r / 2 ^ j + w / 2 ^ d) % 2 = rw e4 (xor_low (r / 2 ^ j) (w / 2 ^ d)) in
    sums w (w / 2 ^ a) (w / 2 ^ b) (w / 2 ^ c) (w / 2 ^ d) (p / 2 ^ j) (q / 2 ^ j) (r / 2 ^ j) (bit_xor r (z / 2 ^ d) / 2 ^ j) f1 f2 f3 f4

pub sum_small : (z a b c d : ℕ) → z < 2 ^ 14 → bit_xor (bit_xor (bit_xor (bit_xor z (z / 2 ^ a)) (z / 2 ^ b)) (z / 2 ^ c)) (z / 2 ^ d) < 2 ^ 14
sum_small z a b c d h =
    let l : (k : ℕ) → z / 2 ^ k < 2 ^ 14 = λ k. omega (arith, shr_le z k) in
    xor_lt 14 _ _ (xor_lt 14 _ _ (xor_lt 14 _ _ (xor_lt 14 _ _ h (l a)) (l b)) (l c)) (l d)

-- ---- the 128 windows, by three computed tests
x_test : ℕ → Bool
x_test v = eqb (output isdb 0o171 (v % 2) (backward (v / 2))) ((v + v / 2 + v / 4 + v / 8 + v / 64) % 2)

y_test : ℕ → Bool
y_test v = eqb (output isdb 0o133 (v % 2) (backward (v / 2))) ((v + v / 4 + v / 8 + v / 32 + v / 64) % 2)

moved_test : ℕ → Bool
moved_test v = eqb (backward (v % 64)) (moved 32 (v % 2) (backward (v / 2)))

twice_test : ℕ → Bool
twice_test s = eqb (backward (backward s)) s

x_passes : T (every x_test 128)
unfolding every x_test output tapped backward
x_passes = tt

y_passes : T (every y_test 128)
unfolding every y_test output tapped backward
y_passes = tt

moved_passes : T (every moved_test 128)
unfolding every moved_test backward
moved_passes = tt

twice_passes : T (every twice_test 64)
unfolding every twice_test backward
twice_passes = tt

pub backward_twice : (s : ℕ) → s < 64 → backward (backward s) ≡ s
unfolding twice_test
backward_twice s h = eqb→eq (backward (backward s)) s (every_at twice_test 64 twice_passes s h)

five : (a b c d e v w x y z : ℕ) → a % 2 ≡ v % 2 → b % 2 ≡ w % 2 → c % 2 ≡ x % 2 → d % 2 ≡ y % 2 → e % 2 ≡ z % 2 → (a + b + c + d + e) % 2 ≡ (v + w + x + y + z) % 2
five a b c d e v w x y z f g h i j =
    odd_sum (a + b + c + d) e (v + w + x + y) z (odd_sum (a + b + c) d (v + w + x) y (odd_sum (a + b) c (v + w) x (odd_sum a b v w f g) h) i) j

even_added : (a b q : ℕ) → b ≡ 2 * q + a → a % 2 ≡ b % 2
even_added a b q e = omega arith

pub backward_small : (s : ℕ) → backward s < 64
unfolding backward
backward_small s = omega arith

-- of any number, whose seven lowest digits are the window
module _ (w : ℕ) where
  low_is : w % 128 % 2 ≡ w % 2
  low_is = omega arith

  high_is : w % 128 / 2 ≡ w / 2 % 64
  high_is = omega arith

  x_window : output isdb 0o171 (w % 2) (backward (w / 2 % 64)) ≡ (w + w / 2 + w / 4 + w / 8 + w / 64) % 2
  unfolding x_test
  x_window =
      let v = w % 128 in
      let t = eqb→eq (output isdb 0o171 (v % 2) (backward (v / 2))) ((v + v / 2 + v / 4 + v / 8 + v / 64) % 2) (every_at x_test 128 x_passes v (omega arith)) in
      rw (low_is, high_is) at t ∙ five (w % 128) (w / 2 % 64) (w % 128 / 4) (w % 128 / 8) (w % 128 / 64) w (w / 2) (w / 4) (w / 8) (w / 64) (even_added (w % 128) (w) (64 * (w / 128)) (omega arith)) (even_added (w / 2 % 64) (w / 2) (32 * (w / 128)) (omega arith)) (even_added (w % 128 / 4) (w / 4) (16 * (w / 128)) (omega arith)) (even_added (w % 128 / 8) (w / 8) (8 * (w / 128)) (omega arith)) (even_added (w % 128 / 64) (w / 64) (1 * (w / 128)) (omega arith))

  y_window : output isdb 0o133 (w % 2) (backward (w / 2 % 64)) ≡ (w + w / 4 + w / 8 + w / 32 + w / 64) % 2
  unfolding y_test
  y_window =
      let v = w % 128 in
      let t = eqb→eq (output isdb 0o133 (v % 2) (backward (v / 2))) ((v + v / 4 + v / 8 + v / 32 + v / 64) % 2) (every_at y_test 128 y_passes v (omega arith)) in
      rw (low_is, high_is) at t ∙ five (w % 128) (w % 128 / 4) (w % 128 / 8) (w % 128 / 32) (w % 128 / 64) w (w / 4) (w / 8) (w / 32) (w / 64) (even_added (w % 128) (w) (64 * (w / 128)) (omega arith)) (even_added (w % 128 / 4) (w / 4) (16 * (w / 128)) (omega arith)) (even_added (w % 128 / 8) (w / 8) (8 * (w / 128)) (omega arith)) (even_added (w % 128 / 32) (w / 32) (2 * (w / 128)) (omega arith)) (even_added (w % 128 / 64) (w / 64) (1 * (w / 128)) (omega arith))

  moved_window : backward (w % 64) ≡ moved 32 (w % 2) (backward (w / 2 % 64))
  unfolding moved_test
  moved_window =
      let v = w % 128 in
      let e : v % 64 ≡ w % 64 = omega arith in
      let t = eqb→eq (backward (v % 64)) (moved 32 (v % 2) (backward (v / 2))) (every_at moved_test 128 moved_passes v (omega arith)) in
      rw (e, low_is, high_is) at t

-- ---- the outputs of a window
module _ (z j : ℕ) (small : z < 16384) (few : j < 8) where
  abbrev w : ℕ
  w = z / 2 ^ j

  whole : outputs_in z ≡ x_outputs z * 2 ^ 16 + y_outputs z
  whole =
      let e : z % 16384 ≡ z = mod-eq_of_lt small in
      rw e (omega arith)

  y_small : y_outputs z < 2 ^ 16
  unfolding y_outputs
  y_small = omega (arith, sum_small z 2 3 5 6 small)

  pub x_digit : outputs_in z / 2 ^ (16 + j) % 2 ≡ output isdb 0o171 (w % 2) (backward (w / 2 % 64))
  unfolding x_outputs
  x_digit =
      ap (λ (x : ℕ). x / 2 ^ (16 + j) % 2) whole
      ∙ ap (λ (x : ℕ). x % 2) (digit_high (x_outputs z) (y_outputs z) 16 j y_small)
      ∙ sum_digit z 1 2 3 6 j
      ∙ sym (x_window w)

  pub y_digit : outputs_in z / 2 ^ j % 2 ≡ output isdb 0o133 (w % 2) (backward (w / 2 % 64))
  unfolding y_outputs
  y_digit =
      ap (λ (x : ℕ). x / 2 ^ j % 2) whole
      ∙ digit_low (x_outputs z) (y_outputs z) 16 j (omega arith)
      ∙ sum_digit z 2 3 5 6 j
      ∙ sym (y_window w)

-- 2 X + Y of the window at the lowest digit
pub label_lowest : (w : ℕ) → w < 16384 → Isdb.labels (w % 2) (backward (w / 2 % 64)) ≡ 2 * (outputs_in w / 2 ^ 16 % 2) + outputs_in w / 2 ^ 0 % 2
unfolding label
label_lowest w small = rw (rw (div-one w) at (x_digit w 0 small (omega arith)), rw (div-one w) at (y_digit w 0 small (omega arith)))

-- ---- n steps, whose inputs are the lowest n digits of z, the first highest
module _ (z n : ℕ) (us : List ℕ) (inputs : (k : ℕ) → k < n → get_or us k 0 ≡ z / 2 ^ (n - 1 - k) % 2) where
  -- the state that the digits above hold
  abbrev pub from : ℕ
  from = backward (z / 2 ^ n % 64)

  pub state_window : (k : ℕ) → k ≤ n → state_at 32 from us k ≡ backward (z / 2 ^ (n - k) % 64)
  unfolding state_at
  state_window zero h = ap (λ (x : ℕ). backward (z / 2 ^ x % 64)) (sym (sub-zero n))
  state_window (suc k) h =
      let w = z / 2 ^ (n - suc k) in
      let a : n - 1 - k ≡ n - suc k = omega arith in
      let b : z / 2 ^ (n - k) ≡ w / 2 =
      let c : n - k ≡ (n - suc k) + 1 = omega arith in
      ap (λ (x : ℕ). z / 2 ^ x) c ∙ sym (shr-shr z (n - suc k) 1) in
      let e : get_or us k 0 ≡ w % 2 = inputs k (omega arith) ∙ ap (λ (x : ℕ). z / 2 ^ x % 2) a in
      let s = state_window k (omega arith) ∙ ap (λ (x : ℕ). backward (x % 64)) b in
      rw (e, s) (sym (moved_window w))

  -- 2 X + Y of step k
  pub label_window : z < 16384 → n ≤ 8 → (k : ℕ) → k < n
      → Isdb.labels (get_or us k 0) (state_at 32 from us k) ≡ 2 * (outputs_in z / 2 ^ (16 + (n - 1 - k)) % 2) + outputs_in z / 2 ^ (n - 1 - k) % 2
  unfolding label
  label_window small few k h =
      let j = n - 1 - k in
      let w = z / 2 ^ j in
      let b : z / 2 ^ (n - k) ≡ w / 2 =
      let c : n - k ≡ j + 1 = omega arith in
      ap (λ (x : ℕ). z / 2 ^ x) c ∙ sym (shr-shr z j 1) in
      let s = state_window k (omega arith) ∙ ap (λ (x : ℕ). backward (x % 64)) b in
      rw (inputs k h, s, x_digit z j small (omega arith), y_digit z j small (omega arith))
