-- Laws of the traced bits.
use Rattle.std.specs.Prelude.{◌≡◌, List, ℕ, length, take}
use Rattle.std.proofs.Common.{arith, take_all}
use Rattle.trellis.specs.Step.{input, traced}
use Rattle.trellis.specs.ListLaws.{length_upto}

module _ (half : ℕ) where
  -- as many bits as words
  pub length_traced : (ws : List ℕ) (s : ℕ) → length (traced half ws s) ≡ length ws
  unfolding traced
  length_traced ws s = length_upto (input half ws (length ws) s) (length ws)

  pub all_traced : (ws : List ℕ) (s n : ℕ) → length ws ≡ n → take n (traced half ws s) ≡ traced half ws s
  all_traced ws s n e = take_all n (traced half ws s) (rw (length_traced ws s) (omega arith))
