-- The states that i steps lead to from a state b. Six steps lead from any state to every other.
use Rattle.std.specs.Prelude.{◌≡◌, ℕ, zero, suc, ◌+◌, ◌*◌, ◌/◌, ◌%◌, ◌<◌}
use Rattle.std.proofs.Common.{◌∙◌}
use native.Mathlib.Omega.{arith}

-- the predecessors of s are 2 (s % 32) and 2 (s % 32) + 1
unfoldable pub Reach : ℕ → ℕ → ℕ → Type 0
Reach zero b s = s ≡ b
Reach (suc i) b s = (e : ℕ) × (e < 2) × Reach i b (2 * (s % 32) + e)

-- after i steps the i newest bits are free, and the rest is what is left of b
low_32 : (s c : ℕ) → c < 2 → (2 * (s % 32) + c) % 32 ≡ 2 * (s % 16) + c
low_32 s c h =
    let e : s % 32 ≡ s % 16 + 16 * (s / 16 % 2) = omega arith in
    omega arith

low_16 : (s c : ℕ) → c < 2 → (2 * (s % 32) + c) % 16 ≡ 2 * (s % 8) + c
low_16 s c h =
    let e : s % 32 ≡ s % 8 + 8 * (s / 8 % 4) = omega arith in
    omega arith

low_8 : (s c : ℕ) → c < 2 → (2 * (s % 32) + c) % 8 ≡ 2 * (s % 4) + c
low_8 s c h =
    let e : s % 32 ≡ s % 4 + 4 * (s / 4 % 8) = omega arith in
    omega arith

low_4 : (s c : ℕ) → c < 2 → (2 * (s % 32) + c) % 4 ≡ 2 * (s % 2) + c
low_4 s c h =
    let e : s % 32 ≡ s % 2 + 2 * (s / 2 % 16) = omega arith in
    omega arith

module _ (b : ℕ) (h : b < 64) where
  one : (s : ℕ) → s < 64 → s % 32 ≡ b / 2 → Reach 1 b s
  unfolding Reach
  one s l e = (b % 2, omega arith, omega arith)

  two : (s : ℕ) → s < 64 → s % 16 ≡ b / 4 → Reach 2 b s
  unfolding Reach
  two s l e =
      let d : b / 2 ≡ 2 * (b / 4) + b / 2 % 2 = omega arith in
      (b / 2 % 2, omega arith, one (2 * (s % 32) + b / 2 % 2) (omega arith) (low_32 s (b / 2 % 2) (omega arith) ∙ omega arith))

  three : (s : ℕ) → s < 64 → s % 8 ≡ b / 8 → Reach 3 b s
  unfolding Reach
  three s l e =
      let d : b / 4 ≡ 2 * (b / 8) + b / 4 % 2 = omega arith in
      (b / 4 % 2, omega arith, two (2 * (s % 32) + b / 4 % 2) (omega arith) (low_16 s (b / 4 % 2) (omega arith) ∙ omega arith))

  four : (s : ℕ) → s < 64 → s % 4 ≡ b / 16 → Reach 4 b s
  unfolding Reach
  four s l e =
      let d : b / 8 ≡ 2 * (b / 16) + b / 8 % 2 = omega arith in
      (b / 8 % 2, omega arith, three (2 * (s % 32) + b / 8 % 2) (omega arith) (low_8 s (b / 8 % 2) (omega arith) ∙ omega arith))

  five : (s : ℕ) → s < 64 → s % 2 ≡ b / 32 → Reach 5 b s
  unfolding Reach
  five s l e =
      let d : b / 16 ≡ 2 * (b / 32) + b / 16 % 2 = omega arith in
      (b / 16 % 2, omega arith, four (2 * (s % 32) + b / 16 % 2) (omega arith) (low_4 s (b / 16 % 2) (omega arith) ∙ omega arith))

  pub anywhere : (s : ℕ) → s < 64 → Reach 6 b s
  unfolding Reach
  anywhere s l = (b / 32, omega arith, five (2 * (s % 32) + b / 32) (omega arith) (omega arith))
