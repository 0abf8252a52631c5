-- Bits of the load as digits of a number.
use mathlib.Core.Path.{◌≡◌, refl, sym, ap, ◌∙◌}
use mathlib.Core.Bool.{Bool, true, false}
use mathlib.Core.List.{List}
use Prim.Native.Nat.{ℕ, ◌+◌, ◌-◌, ◌*◌, ◌/◌, ◌%◌, ◌^◌, ◌<◌, ◌≤◌}
use native.Mathlib.Nat.{mod-lt, not-suc-le-zero}
use native.Mathlib.Omega.{arith}
use borrow.Author.Count.{below_more}
use borrow.Author.Tests.{ltb-true, ltb-false}
use lib.Dec.{ltb, lit<}
use lib.ListN.{get_or}
use lib.Pow.{pow_pos, shr-shr, field, mod-mod-pow}
use Rattle.trellis.specs.Lists.{upto}
use Rattle.encode_bits.specs.WindowLaws.{digit_low, digit_high}
use Rattle.trellis.specs.ListLaws.{get_d_upto}
use Rattle.isdbs_points.specs.Layout.{load_bit}
use Rattle.encode_bits.specs.Bits.{byte_bit, word_bit, Digits, byte_inputs, plain_inputs}

-- digit j of the n lowest digits of x
low_digit : (x n j : ℕ) → j < n → x % 2 ^ n / 2 ^ j % 2 ≡ x / 2 ^ j % 2
low_digit x n j h =
    let k = n - 1 - j in
    let e : n ≡ k + 1 + j = omega arith in
    rw e (ap (λ (y : ℕ). y % 2) (field x (k + 1) j) ∙ mod-mod-pow (x / 2 ^ j) k 1)

module _ (load : List ℕ) (bit n : ℕ) (hn : n ≤ 8) where
  abbrev b0 : ℕ
  b0 = get_or load (bit / 8) 0

  abbrev b1 : ℕ
  b1 = get_or load (bit / 8 + 1) 0

  -- the two bytes that hold them
  abbrev two : ℕ
  two = 256 * b0 + b1

  two_digit : b1 < 256 → (k : ℕ) → k < 8 → two / 2 ^ (15 - bit % 8 - k) % 2 ≡ load_bit load (bit + k)
  two_digit small k h = by (ltb (bit % 8 + k) 8) refl
    where
      by : (t : Bool) → ltb (bit % 8 + k) 8 ≡ t → two / 2 ^ (15 - bit % 8 - k) % 2 ≡ load_bit load (bit + k)
      by true e =
          let l = ltb-true (bit % 8 + k) 8 e in
          let f : 15 - bit % 8 - k ≡ 8 + (7 - (bit % 8 + k)) = omega arith in
          let g : (bit + k) / 8 ≡ bit / 8 = omega arith in
          let m : (bit + k) % 8 ≡ bit % 8 + k = omega arith in
          let z : two ≡ b0 * 2 ^ 8 + b1 = omega arith in
          rw (f, z, g, m) (ap (λ (x : ℕ). x % 2) (digit_high b0 b1 8 (7 - (bit % 8 + k)) small))
      by false e =
          let l = ltb-false (bit % 8 + k) 8 e in
          let f : 7 - (bit % 8 + k - 8) ≡ 15 - bit % 8 - k = omega arith in
          let g : (bit + k) / 8 ≡ bit / 8 + 1 = omega arith in
          let m : (bit + k) % 8 ≡ bit % 8 + k - 8 = omega arith in
          let z : two ≡ b0 * 2 ^ 8 + b1 = omega arith in
          rw (z, g, m, f) (digit_low b0 b1 8 (15 - bit % 8 - k) (omega arith))

  pub load_digits : b1 < 256 → Digits (plain_inputs load bit n) n (two / 2 ^ (16 - bit % 8 - n) % 2 ^ n)
  load_digits small =
      record {
        small = mod-lt _ (pow_pos n);
        each = λ k h.
            let x = two / 2 ^ (16 - bit % 8 - n) in
            let j = n - 1 - k in
            let e : 16 - bit % 8 - n + j ≡ 15 - bit % 8 - k = omega arith in
            get_d_upto (λ i. load_bit load (bit + i)) 0 n k h
            ∙ sym (low_digit x n j (omega arith)
            ∙ ap (λ (y : ℕ). y % 2) (shr-shr two (16 - bit % 8 - n) j ∙ ap (λ (y : ℕ). two / 2 ^ y) e)
            ∙ two_digit small k (omega arith));
      }

-- ---- the coded bits of a byte as digits
four_digits : (a b c d : ℕ) → a < 2 → b < 2 → c < 2 → d < 2 → (us : List ℕ) → get_or us 0 0 ≡ a → get_or us 1 0 ≡ b → get_or us 2 0 ≡ c → get_or us 3 0 ≡ d
    → Digits us 4 (4 * (2 * a + b) + (2 * c + d))
four_digits a b c d ha hb hc hd us ea eb ec ed =
    record {
      small = omega arith;
      each = below_more P 3 (below_more P 2 (below_more P 1 (below_more P 0 (λ k h. absurd (not-suc-le-zero h)) (ea ∙ omega arith)) (eb ∙ omega arith)) (ec ∙ omega arith)) (ed ∙ omega arith);
    }
  where
    P : ℕ → Type 0
    P k = get_or us k 0 ≡ word_bit (4 * (2 * a + b) + (2 * c + d)) (4 - 1 - k)

pub byte_digits : (byte : ℕ) → Digits (byte_inputs byte) 4 (4 * (2 * byte_bit byte 1 + byte_bit byte 3) + (2 * byte_bit byte 5 + byte_bit byte 7))
unfolding upto
byte_digits byte =
    four_digits (byte_bit byte 1) (byte_bit byte 3) (byte_bit byte 5) (byte_bit byte 7) (mod-lt _ (lit< tt)) (mod-lt _ (lit< tt)) (mod-lt _ (lit< tt)) (mod-lt _ (lit< tt)) (byte_inputs byte)
    (at 0 (lit< tt)) (at 1 (lit< tt)) (at 2 (lit< tt)) (at 3 (lit< tt))
  where
    at : (i : ℕ) → i < 4 → get_or (byte_inputs byte) i 0 ≡ byte_bit byte (2 * i + 1)
    at i h = get_d_upto (λ j. byte_bit byte (2 * j + 1)) 0 4 i h
