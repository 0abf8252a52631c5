-- Two encodings and that of their exclusive-or, by the place of a step. Over any code.
use Rattle.std.specs.Prelude.{◌≡◌, List}
use Rattle.std.proofs.Math.Path.{refl, ap}
use Rattle.std.proofs.Common.{◌∙◌, arith}
use Prim.Native.Nat.{ℕ, zero, suc, ◌+◌, ◌*◌, ◌/◌, ◌%◌, ◌<◌}
use Rattle.std.specs.Int.Bits.{bit_xor}
use Rattle.std.proofs.Math.ListN.{get_or}
use Rattle.trellis.specs.Code.{Code, half, label, moved, state_at}
use Rattle.trellis.proofs.LinearLaws.{moved_xor}
use Rattle.overlay_laws.proofs.CodingLaws.{label_xor, moved_under}

-- ws holds the sums modulo 2 of the bits us and vs
pub record Sums (us vs ws : List ℕ) : Type 0 where
  pub first : (k : ℕ) → get_or us k 0 < 2
  pub second : (k : ℕ) → get_or vs k 0 < 2
  pub sum : (k : ℕ) → get_or ws k 0 ≡ (get_or us k 0 + get_or vs k 0) % 2

-- each state on the way is a state
state_under : (h : ℕ) (us : List ℕ) → ((k : ℕ) → get_or us k 0 < 2) → (s : ℕ) → s < 2 * h → (k : ℕ) → state_at h s us k < 2 * h
unfolding state_at
state_under h us b s l zero = l
state_under h us b s l (suc k) = moved_under h (get_or us k 0) (state_at h s us k) (b k) (state_under h us b s l k)

module _ (c : Code) (us vs ws : List ℕ) (sums : Sums us vs ws) (s r : ℕ) (hs : s < 2 * half c) (hr : r < 2 * half c) where
  pub state_xor : (k : ℕ) → state_at (half c) (bit_xor s r) ws k ≡ bit_xor (state_at (half c) s us k) (state_at (half c) r vs k)
  unfolding state_at
  state_xor zero = refl
  state_xor (suc k) =
      let a = state_under (half c) us sums.first s hs k in
      let b = state_under (half c) vs sums.second r hr k in
      ap (λ (i : ℕ). moved (half c) i (state_at (half c) (bit_xor s r) ws k)) (sums.sum k)
      ∙ ap (λ (i : ℕ). moved (half c) ((get_or us k 0 + get_or vs k 0) % 2) i) (state_xor k)
      ∙ moved_xor c (get_or us k 0) (get_or vs k 0) (state_at (half c) s us k) (state_at (half c) r vs k) (sums.first k) (sums.second k) (omega arith) (omega arith)

  -- 2 X + Y of step k
  pub pair_xor : (k : ℕ)
      → label c (get_or ws k 0) (state_at (half c) (bit_xor s r) ws k) ≡ bit_xor (label c (get_or us k 0) (state_at (half c) s us k)) (label c (get_or vs k 0) (state_at (half c) r vs k))
  pair_xor k =
      ap (λ (i : ℕ). label c i (state_at (half c) (bit_xor s r) ws k)) (sums.sum k)
      ∙ ap (λ (i : ℕ). label c ((get_or us k 0 + get_or vs k 0) % 2) i) (state_xor k)
      ∙ label_xor c (get_or us k 0) (get_or vs k 0) (state_at (half c) s us k) (state_at (half c) r vs k)
