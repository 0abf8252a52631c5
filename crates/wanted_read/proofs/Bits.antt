-- Bits of a run one after the other, and the bytes that they make.
use mathlib.Core.Path.{◌≡◌, refl, sym, ◌∙◌, ap}
use Prim.Native.Nat.{ℕ, zero, suc, ◌+◌, ◌*◌, ◌<◌}
use native.Mathlib.Nat.{add-zero, add-suc}
use native.Mathlib.Omega.{arith}
use Rattle.isdbs_points.specs.declared.Cplx.{Cplx}
use Rattle.isdbs_points.specs.declared.Mapping.{Mapping}
use Rattle.isdbs_points.specs.Layout.{Segment, byte_of}
use Rattle.isdbs_metrics.specs.DigitLaws.{byte_cong}
use Rattle.wanted_read.specs.Pieces.{next_bit, next_state, state_after, bit_after, run_state, run_bit, run_byte}

module _ (m : Mapping) (z : ℕ → Cplx) (g : Segment) (s : ℕ) where
  -- after the first a bits, n more
  pub state_on : (a n : ℕ) → state_after m z g (run_state m z g s a) a n ≡ run_state m z g s (a + n)
  unfolding state_after run_state
  state_on a zero = rw (add-zero a)
  state_on a (suc n) = rw (add-suc a n) (ap (λ (x : ℕ). next_state m z g x (a + n)) (state_on a n))

  pub byte_on : (j x v : ℕ) → x ≡ run_state m z g s (8 * j) → v ≡ byte_of (bit_after m z g x (8 * j)) → v ≡ run_byte m z g s j
  byte_on j x v e q =
      q ∙ byte_cong (bit_after m z g x (8 * j)) (λ i. run_bit m z g s (8 * j + i))
      (λ i l. ap (λ (y : ℕ). next_bit m z g y (8 * j + i)) (ap (λ (y : ℕ). state_after m z g y (8 * j) i) e ∙ state_on (8 * j) i))

  pub state_next : (j x y : ℕ) → x ≡ run_state m z g s (8 * j) → y ≡ state_after m z g x (8 * j) 8 → y ≡ run_state m z g s (8 * (j + 1))
  state_next j x y e q =
      let n : 8 * j + 8 ≡ 8 * (j + 1) = omega arith in
      q ∙ ap (λ (w : ℕ). state_after m z g w (8 * j) 8) e ∙ state_on (8 * j) 8 ∙ ap (run_state m z g s) n
