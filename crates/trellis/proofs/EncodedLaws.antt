-- Laws of encoding a list of inputs.
use Rattle.std.specs.Prelude.{◌≡◌, length, get_or}
use Rattle.std.proofs.Math.Path.{refl, sym, ap}
use Rattle.std.proofs.Common.{◌∙◌, not-suc-le-zero, le_of_suc-le-suc, arith}
use mathlib.Core.List.{List, [], ◌∷◌, ◌++◌}
use Prim.Native.Nat.{ℕ, zero, suc, ◌*◌, ◌%◌, ◌<◌}
use Rattle.trellis.specs.Code.{Code, half, label, moved, state_at}
use Rattle.trellis.specs.Encoded.{low_bits, bits_of, encoded, reached}

-- ---- the low bits of bytes, and the bits of coded pairs
pub low_at : (us : List ℕ) (k : ℕ) → get_or (low_bits us) k 0 ≡ get_or us k 0 % 2
low_at [] k = refl
low_at (u ∷ us) zero = refl
low_at (u ∷ us) (suc k) = low_at us k

pub length_bits : (ls : List ℕ) → length (bits_of ls) ≡ 2 * length ls
length_bits [] = refl
length_bits (l ∷ ls) = let e = length_bits ls in omega arith

module _ (c : Code) where
  pub length_encoded : (s : ℕ) (us : List ℕ) → length (encoded c s us) ≡ length us
  unfolding encoded
  length_encoded s [] = refl
  length_encoded s (u ∷ us) = ap suc (length_encoded (moved (half c) u s) us)

  -- what follows is encoded from the state reached
  pub encoded_append : (s : ℕ) (us vs : List ℕ) → encoded c s (us ++ vs) ≡ encoded c s us ++ encoded c (reached c s us) vs
  unfolding encoded reached
  encoded_append s [] vs = refl
  encoded_append s (u ∷ us) vs = ap (λ (x : List ℕ). label c u s ∷ x) (encoded_append (moved (half c) u s) us vs)

  pub reached_append : (s : ℕ) (us vs : List ℕ) → reached c s (us ++ vs) ≡ reached c (reached c s us) vs
  unfolding reached
  reached_append s [] vs = refl
  reached_append s (u ∷ us) vs = reached_append (moved (half c) u s) us vs

  -- ---- by the place of an input
  from_second : (s u : ℕ) (us : List ℕ) (n : ℕ) → state_at (half c) s (u ∷ us) (suc n) ≡ state_at (half c) (moved (half c) u s) us n
  unfolding state_at
  from_second s u us zero = refl
  from_second s u us (suc n) = ap (moved (half c) (get_or us n 0)) (from_second s u us n)

  pub encoded_at : (s : ℕ) (us : List ℕ) (k : ℕ) → k < length us → get_or (encoded c s us) k 0 ≡ label c (get_or us k 0) (state_at (half c) s us k)
  unfolding encoded state_at
  encoded_at s [] k h = absurd (not-suc-le-zero h)
  encoded_at s (u ∷ us) zero h = refl
  encoded_at s (u ∷ us) (suc k) h =
      encoded_at (moved (half c) u s) us k (le_of_suc-le-suc h) ∙ sym (ap (label c (get_or us k 0)) (from_second s u us k))

  pub reached_is : (s : ℕ) (us : List ℕ) → reached c s us ≡ state_at (half c) s us (length us)
  unfolding reached state_at
  reached_is s [] = refl
  reached_is s (u ∷ us) = reached_is (moved (half c) u s) us ∙ sym (from_second s u us (length us))
