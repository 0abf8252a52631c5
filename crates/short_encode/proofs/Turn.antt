-- One turn of the list encoder: the front of the output grows by X and Y of an input.
use mathlib.Core.Path.{◌≡◌, sym, ◌∙◌, ap}
use mathlib.Core.List.{List}
use Prim.Native.Nat.{ℕ, suc, ◌+◌, ◌*◌, ◌%◌, ◌<◌, ◌≤◌}
use native.Mathlib.Omega.{arith}
use native.Mathlib.Numerals.{add-one}
use lib.ListN.{length, get_or, take, set}
use lib.Seq.{take_all}
use Rattle.trellis.specs.Lists.{laid}
use Rattle.trellis.specs.Code.{output, moved, state_at}
use Rattle.trellis.specs.Encoded.{low_bits, coded_bits, last_state}
use Rattle.trellis.proofs.EncodedLaws.{reached_is, low_at}
use Rattle.trellis.specs.LaidLaws.{laid_next}
use Rattle.short_code.specs.declared.Code.{Code}
use Rattle.short_code.specs.Codes.{code_of, half_of}
use Rattle.short_encode.specs.EncodingLaws.{length_low, length_coded, state_before, coded_x, coded_y}

-- the output with X and Y of the first k inputs at its front
abbrev pub written : Code → ℕ → List ℕ → List ℕ → ℕ → List ℕ
written c s us out₀ k = laid (take (2 * k) (coded_bits (code_of c) s us)) out₀

module _ (c : Code) (s : ℕ) (us out₀ : List ℕ) (room : 2 * length us ≤ length out₀) where
  pub turn : (k x y : ℕ) (l : List ℕ) → k < length us → l ≡ written c s us out₀ k
      → x ≡ output (code_of c) c.g1 (get_or us k 0 % 2) (state_before c s us k)
      → y ≡ output (code_of c) c.g2 (get_or us k 0 % 2) (state_before c s us k)
      → set (set l (2 * k) x) (2 * k + 1) y ≡ written c s us out₀ (k + 1)
  turn k x y l h e ex ey =
      let front = coded_bits (code_of c) s us in
      let n = length_coded c s us in
      let first : set l (2 * k) x ≡ laid (take (suc (2 * k)) front) out₀ =
      ap (λ (w : List ℕ). set w (2 * k) x) e ∙ ap (λ (z : ℕ). set (written c s us out₀ k) (2 * k) z) (ex ∙ sym (coded_x c s us k h)) ∙ laid_next front out₀ (2 * k) 0 (omega arith) (omega arith) in
      let i : 2 * k + 1 ≡ suc (2 * k) = add-one (2 * k) in
      let last : 2 * (k + 1) ≡ suc (2 * k + 1) = omega arith in
      ap (λ (w : List ℕ). set w (2 * k + 1) y) (first ∙ ap (λ (j : ℕ). laid (take j front) out₀) (sym i))
      ∙ ap (λ (z : ℕ). set (laid (take (2 * k + 1) front) out₀) (2 * k + 1) z) (ey ∙ sym (coded_y c s us k h))
      ∙ laid_next front out₀ (2 * k + 1) 0 (omega arith) (omega arith)
      ∙ ap (λ (j : ℕ). laid (take j front) out₀) (sym last)

  -- all inputs
  pub whole : written c s us out₀ (length us) ≡ laid (coded_bits (code_of c) s us) out₀
  whole = let n = length_coded c s us in ap (λ (w : List ℕ). laid w out₀) (take_all (2 * length us) (coded_bits (code_of c) s us) (omega arith))

-- the state
pub state_next : (c : Code) (h s : ℕ) (us : List ℕ) (k v w : ℕ) → h ≡ half_of c → v ≡ state_before c s us k → w ≡ moved h (get_or us k 0 % 2) v → w ≡ state_before c s us (k + 1)
unfolding state_at
state_next c h s us k v w eh ev ew = rw (add-one k) (ew ∙ rw (eh, ev) (ap (λ (u : ℕ). moved (half_of c) u (state_before c s us k)) (sym (low_at us k))))

pub state_last : (c : Code) (s : ℕ) (us : List ℕ) → state_before c s us (length us) ≡ last_state (code_of c) s us
state_last c s us = ap (λ (n : ℕ). state_before c s us n) (sym (length_low us)) ∙ sym (reached_is (code_of c) s (low_bits us))
