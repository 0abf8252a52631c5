-- X and Y of each input by their places.
use Rattle.std.specs.Prelude.{◌≡◌, refl, List, [], ◌∷◌, ℕ, zero, suc, ◌+◌, ◌*◌, ◌/◌, ◌%◌, ◌<◌, ◌≤◌, length, get_or}
use Rattle.std.proofs.Common.{sym, ◌∙◌, not-suc-le-zero}
use Rattle.std.proofs.Math.Path.{ap}
use native.Mathlib.Omega.{arith}
use Rattle.std.proofs.lemmas.List.{length-map}
use Rattle.trellis.specs.Code as trellis
use Rattle.trellis.specs.Code.{output, state_at}
use Rattle.trellis.specs.Encoded.{encoded, low_bits, bits_of, coded_bits}
use Rattle.trellis.proofs.EncodedLaws.{length_encoded, encoded_at, length_bits, low_at}
use Rattle.short_code.specs.declared.Code.{Code}
use Rattle.short_code.specs.Codes.{code_of, half_of}

pub length_low : (us : List ℕ) → length (low_bits us) ≡ length us
length_low us = length-map us (λ u. u % 2)

-- ---- the bits of pairs
x_at : (ls : List ℕ) (k : ℕ) → k < length ls → get_or (bits_of ls) (2 * k) 0 ≡ get_or ls k 0 / 2
x_at [] k h = absurd (not-suc-le-zero h)
x_at (l ∷ ls) zero h = refl
x_at (l ∷ ls) (suc k) h = let e : 2 * suc k ≡ suc (suc (2 * k)) = omega arith in rw e (x_at ls k (omega arith))

y_at : (ls : List ℕ) (k : ℕ) → k < length ls → get_or (bits_of ls) (2 * k + 1) 0 ≡ get_or ls k 0 % 2
y_at [] k h = absurd (not-suc-le-zero h)
y_at (l ∷ ls) zero h = refl
y_at (l ∷ ls) (suc k) h = let e : 2 * suc k + 1 ≡ suc (suc (2 * k + 1)) = omega arith in rw e (y_at ls k (omega arith))

-- ---- the coded bits
pub length_coded : (c : Code) (s : ℕ) (us : List ℕ) → length (coded_bits (code_of c) s us) ≡ 2 * length us
length_coded c s us = length_bits (encoded (code_of c) s (low_bits us)) ∙ ap (λ (n : ℕ). 2 * n) (length_encoded (code_of c) s (low_bits us) ∙ length_low us)

-- the state before input k
abbrev pub state_before : Code → ℕ → List ℕ → ℕ → ℕ
state_before c s us k = state_at (half_of c) s (low_bits us) k

module _ (c : Code) (s : ℕ) (us : List ℕ) (k : ℕ) (h : k < length us) where
  abbrev u : ℕ
  u = get_or us k 0 % 2

  output_bit_lem : (g : ℕ) → output (code_of c) g u (state_before c s us k) < 2
  unfolding output
  output_bit_lem g = omega arith

  pair_at_lem : get_or (encoded (code_of c) s (low_bits us)) k 0 ≡ trellis.label (code_of c) u (state_before c s us k)
  pair_at_lem = encoded_at (code_of c) s (low_bits us) k (rw (length_low us) h) ∙ ap (λ (b : ℕ). trellis.label (code_of c) b (state_before c s us k)) (low_at us k)

  inside : k < length (encoded (code_of c) s (low_bits us))
  inside = rw (length_encoded (code_of c) s (low_bits us) ∙ length_low us) h

  pub coded_x : get_or (coded_bits (code_of c) s us) (2 * k) 0 ≡ output (code_of c) c.g1 u (state_before c s us k)
  unfolding trellis.label
  coded_x = x_at (encoded (code_of c) s (low_bits us)) k inside ∙ ap (λ (l : ℕ). l / 2) pair_at_lem ∙ (let y = output_bit_lem c.g2 in omega arith)

  pub coded_y : get_or (coded_bits (code_of c) s us) (2 * k + 1) 0 ≡ output (code_of c) c.g2 u (state_before c s us k)
  unfolding trellis.label
  coded_y = y_at (encoded (code_of c) s (low_bits us)) k inside ∙ ap (λ (l : ℕ). l % 2) pair_at_lem ∙ (let y = output_bit_lem c.g2 in omega arith)
