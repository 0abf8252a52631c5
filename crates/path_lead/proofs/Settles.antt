-- The end of a step, in a file of its own: its bound on the steps is edited.
use Rattle.std.specs.Prelude.{◌≡◌, ◌⊎◌, false, cond, List, eqb, Float}
use Rattle.std.proofs.Common.{subst, inl, inr, eqb→eq}
use Prim.Native.Nat.{ℕ, suc, ◌+◌, ◌-◌, ◌/◌, ◌%◌, ◌<◌}
use native.Mathlib.Omega.{arith}
use Rattle.trellis.specs.Step.{four, Tie, renormalised}
use Rattle.trellis.specs.Run.{settled}
use Rattle.trellis.specs.Isdb.{longest_frame}
use Rattle.path_lead.specs.Ties.{same, false_of}
use Rattle.path_lead.proofs.Window.{At, wrap_at}
use Rattle.trellis.specs.Isdb

-- ---- the end of a step: the maximum is subtracted, or nothing is
pub settles : (t : Tie) (pm m : List Float) (s n : ℕ) → s < 64 → n < longest_frame → At pm s (n / 64) (n % 64 + 1) → At (settled Isdb.half Isdb.labels t n (four m) pm) s (suc n / 64) (suc n % 64)
unfolding settled
settles t pm m s n S N i = go (same (n % 64) 63)
  where
    go : (n % 64 ≡ 63) ⊎ (n % 64 ≡ 63 → ⊥) → At (cond (eqb (n % 64) 63) (renormalised 32 pm) pm) s (suc n / 64) (suc n % 64)
    go (inl e) =
        let f : suc n / 64 ≡ n / 64 + 1 = omega arith in
        let g : suc n % 64 ≡ 0 = omega arith in
        let h : At pm s (n / 64) 64 = subst (λ (x : ℕ). At pm s (n / 64) (x + 1)) e i in
        let l : At (renormalised 32 pm) s (n / 64 + 1) 0 = wrap_at pm s (n / 64) S (omega arith) h in
        rw (e, f, g) l
    go (inr k) =
        let f : suc n / 64 ≡ n / 64 = omega arith in
        let g : suc n % 64 ≡ n % 64 + 1 = omega arith in
        let b : eqb (n % 64) 63 ≡ false = false_of (eqb (n % 64) 63) (λ b. k (eqb→eq (n % 64) 63 b)) in
        rw (b, f, g) i
