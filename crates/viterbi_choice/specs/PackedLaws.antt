-- A word that is filled from bit 0, one bit a turn.
use Rattle.std.specs.Prelude.{◌≡◌, Bool, ℕ, zero, suc, ◌+◌, ◌*◌, ◌^◌, ◌%◌, ◌<◌}
use Rattle.std.proofs.Common.{◌∙◌, arith, add-one, add-zero, add-suc, mul_assoc, mul_comm, pow-add, shl_exact}
use Rattle.std.specs.Int.Bits.{bit_or, or_shifted_r}
use Rattle.trellis.specs.Lists.{packed, bit}
use Rattle.trellis.specs.ListLaws.{bit_is, packed_small}

-- the next bit, set by a shift and an or in a word of w bits
pub packed_more : (f : ℕ → Bool) (k w x b : ℕ) → k < w → x ≡ packed f k → b ≡ bit (f k) → bit_or x ((b * 2 ^ k) % 2 ^ w) ≡ packed f (k + 1)
unfolding packed
packed_more f k w x b h is_x is_b =
    let e : (b * 2 ^ k) % 2 ^ w ≡ b * 2 ^ k = shl_exact {a = b} 1 k w (rw is_b (bit_is (f k)).0) (omega arith) in
    let s : x < 2 ^ k = rw is_x (packed_small f k) in
    rw (e, or_shifted_r b k x s, add-one k) (rw (is_x, is_b) (omega arith))

-- two words are one, the second above the first
pub packed_both : (f : ℕ → Bool) (m n : ℕ) → packed f m + packed (λ i. f (m + i)) n * 2 ^ m ≡ packed f (m + n)
unfolding packed
packed_both f m zero = rw (add-zero m) (omega arith)
packed_both f m (suc n) =
    let p : 2 ^ (m + n) ≡ 2 ^ n * 2 ^ m = pow-add 2 m n ∙ mul_comm (2 ^ m) (2 ^ n) in
    let q : bit (f (m + n)) * 2 ^ n * 2 ^ m ≡ bit (f (m + n)) * 2 ^ (m + n) = rw p (mul_assoc (bit (f (m + n))) (2 ^ n) (2 ^ m)) in
    rw (add-suc m n, ← packed_both f m n, ← q) (omega arith)
