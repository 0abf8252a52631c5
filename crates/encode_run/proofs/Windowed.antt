-- The registers and the outputs of several steps, read off the windows of one number.
use mathlib.Core.Path.{◌≡◌, refl, sym, ap, ◌∙◌}
use mathlib.Core.Bool.{Bool, true, false, cond}
use mathlib.Core.List.{List}
use Prim.Native.Nat.{ℕ, ◌+◌, ◌-◌, ◌*◌, ◌/◌, ◌%◌, ◌^◌, ◌<◌, ◌≤◌}
use native.Mathlib.Nat.{mod-lt, mod-eq_of_lt, mul-le-mul_right, le_refl, zero-add, div-one}
use native.Mathlib.Omega.{arith}
use borrow.Author.Tests.{lt-ltb, le-ltb, ltb-true, ltb-false}
use lib.Dec.{eqb, ltb, lit<}
use lib.ListN.{get_or}
use lib.Pow.{pow_mono, shr-shr, high}
use Rattle.trellis.specs.Code.{state_at}
use Rattle.encode_bits.specs.Windows.{backward, outputs_in}
use Rattle.encode_bits.specs.WindowLaws.{backward_twice, digit_low, state_window, label_window}
use Rattle.isdbs_points.specs.Frame.{label_at}
use Rattle.encode_bits.specs.Bits.{word_bit, Digits}
use Rattle.encode_run.specs.Encoded.{pattern_bit, shift_of, output_bit, IsOutput, register_at}

-- ---- n steps from the state s, whose inputs are the digits of u; the states' stages stand in the other order
module _ (s n u : ℕ) (us : List ℕ) (d : Digits us n u) (hs : s < 64) (hn : n ≤ 8) where
  abbrev pub joined : ℕ
  joined = s * 2 ^ n + u

  pub joined_small : joined < 16384
  joined_small =
      let a : (s + 1) * 2 ^ n ≤ 64 * 2 ^ n = mul-le-mul_right (2 ^ n) (omega arith) in
      let b : 2 ^ n ≤ 2 ^ 8 = pow_mono {i = n} {j = 8} hn in
      let e : (s + 1) * 2 ^ n ≡ s * 2 ^ n + 2 ^ n = omega arith in
      omega (arith, d.small)

  top : joined / 2 ^ n % 64 ≡ s
  top = ap (λ (x : ℕ). x % 64) (high s n d.small) ∙ mod-eq_of_lt hs

  each_input : (k : ℕ) → k < n → get_or us k 0 ≡ joined / 2 ^ (n - 1 - k) % 2
  each_input k h = d.each k h ∙ sym (digit_low s u n (n - 1 - k) (omega arith))

  pub joined_state : backward (joined % 64) ≡ state_at 32 (backward s) us n
  joined_state =
      let a = state_window joined n us each_input n (le_refl n) in
      let b : n - n ≡ 0 = omega arith in
      let e = rw (b, div-one joined, top) at a in
      sym e

  pub joined_label : (k : ℕ) → k < n → label_at (backward s) us k ≡ 2 * word_bit (outputs_in joined) (16 + (n - 1 - k)) + word_bit (outputs_in joined) (n - 1 - k)
  joined_label k h = rw top at (label_window joined n us each_input joined_small hn k h)

  pub joined_register : (k : ℕ) → k < n → register_at (backward s) us k ≡ joined / 2 ^ (n - 1 - k) % 128
  joined_register k h =
      let x = joined / 2 ^ (n - 1 - k) in
      let a : n - k ≡ (n - 1 - k) + 1 = omega arith in
      let b : joined / 2 ^ (n - k) ≡ x / 2 = ap (λ (y : ℕ). joined / 2 ^ y) a ∙ sym (shr-shr joined (n - 1 - k) 1) in
      let at = rw top at (state_window joined n us each_input k (omega arith)) in
      let e : backward (state_at 32 (backward s) us k) ≡ x / 2 % 64 =
      ap (λ (y : ℕ). backward y) (at ∙ ap (λ (y : ℕ). backward (y % 64)) b) ∙ backward_twice (x / 2 % 64) (mod-lt (x / 2) (lit< tt)) in
      rw (e, each_input k h) (omega arith)

  -- digit i of the outputs
  pub joined_bit : (i : ℕ) → IsOutput n i → word_bit (outputs_in joined) i ≡ output_bit (label_at (backward s) us) n 0 i
  unfolding output_bit
  joined_bit i h = by (ltb i 16) refl
    where
      by : (t : Bool) → ltb i 16 ≡ t → word_bit (outputs_in joined) i ≡ cond t (label_at (backward s) us (0 + (n - 1 - i)) % 2) (label_at (backward s) us (0 + (n - 1 - (i - 16))) / 2)
      by true e =
          let l = ltb-true i 16 e in
          let f : n - 1 - (n - 1 - i) ≡ i = omega arith in
          rw (zero-add (n - 1 - i), joined_label (n - 1 - i) (omega arith), f) (omega arith)
      by false e =
          let l = ltb-false i 16 e in
          let f : 16 + (n - 1 - (n - 1 - (i - 16))) ≡ i = omega arith in
          rw (zero-add (n - 1 - (i - 16)), joined_label (n - 1 - (i - 16)) (omega arith), f) (omega arith)

-- ---- where the mother bits of a period of n steps stand among the outputs
module _ (n a : ℕ) (hn : n ≤ 8) (h : a / 2 < n) where
  pub shift_output : IsOutput n (shift_of n a)
  unfolding shift_of
  shift_output = rw (lt-ltb (a / 2) n h) (by (eqb (a % 2) 0))
    where
      by : (t : Bool) → IsOutput n (cond t (16 + (n - 1 - a / 2)) (n - 1 - a / 2))
      by true = omega arith
      by false = omega arith

  pub shift_bit : (at : ℕ → ℕ) (base : ℕ) → output_bit at n base (shift_of n a) ≡ pattern_bit at base a
  unfolding shift_of output_bit
  shift_bit at base = rw (lt-ltb (a / 2) n h) (by (eqb (a % 2) 0))
    where
      by : (t : Bool) → cond (ltb (cond t (16 + (n - 1 - a / 2)) (n - 1 - a / 2)) 16) (at (base + (n - 1 - cond t (16 + (n - 1 - a / 2)) (n - 1 - a / 2))) % 2) (at (base + (n - 1 - (cond t (16 + (n - 1 - a / 2)) (n - 1 - a / 2) - 16))) / 2)
          ≡ cond t (at (base + a / 2) / 2) (at (base + a / 2) % 2)
      by true =
          let y = n - 1 - a / 2 in
          let e : n - 1 - (16 + y - 16) ≡ a / 2 = omega arith in
          rw (le-ltb (16 + y) 16 (omega arith), e)
      by false =
          let y = n - 1 - a / 2 in
          let e : n - 1 - y ≡ a / 2 = omega arith in
          rw (lt-ltb y 16 (omega arith), e)
