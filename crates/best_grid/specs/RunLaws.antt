-- The tables of the backward pass, some steps at a time.
use Rattle.std.specs.Prelude.{◌≡◌, Bool}
use Rattle.std.proofs.Math.Path.{refl, ap, sym}
use Rattle.std.proofs.Common.{◌∙◌}
use Rattle.std.proofs.Math.Bool.{true, false, cond}
use mathlib.Core.List.{List}
use Prim.Native.Nat.{ℕ, zero, suc, ◌+◌, ◌-◌, ◌≤◌, min}
use native.Mathlib.Omega.{arith}
use Rattle.trellis.specs.Lists.{bit}
use Rattle.best_grid.specs.Backward.{far, low, turned, backs, back_at, others, other_at, back_run, other_run, fars}

-- the steps of a slot, and those after it
pub back_split : (m : ℕ → ℕ → ℕ) (t r j : ℕ) → back_at m t (r + j) ≡ back_run (back_at m (t + r) j) m t r
unfolding back_at back_run
back_split m t zero j = let e : t + 0 ≡ t = omega arith in let f : 0 + j ≡ j = omega arith in rw (e, f) refl
back_split m t (suc r) j =
    let e : t + suc r ≡ suc t + r = omega arith in
    let f : suc r + j ≡ suc (r + j) = omega arith in
    ap (back_at m t) f ∙ ap (λ (b : List ℕ). backs b (m t)) (back_split m (suc t) r j) ∙ ap (λ (x : ℕ). back_run (back_at m x j) m t (suc r)) (sym e)

module _ (two : ℕ → Bool) (c : ℕ → ℕ → ℕ → ℕ) (us zs : ℕ → ℕ) where
  pub other_split : (t r j : ℕ) → other_at two c us zs t r (r + j) ≡ other_run two c us zs fars (back_at (low two c) (t + r) j) t r
  unfolding other_at other_run fars
  other_split t zero j = refl
  other_split t (suc r) j =
      let e : t + suc r ≡ suc t + r = omega arith in
      let f : suc r + j ≡ suc (r + j) = omega arith in
      ap (other_at two c us zs t (suc r)) f
      ∙ (ap (λ (d : List ℕ). others d (back_at (low two c) (suc t) (r + j)) (c t (zs t)) (turned two c (zs t) t) (low two c t) (us t)) (other_split (suc t) r j)
      ∙ ap (λ (b : List ℕ). others (other_run two c us zs fars (back_at (low two c) (suc t + r) j) (suc t) r) b (c t (zs t)) (turned two c (zs t) t) (low two c t) (us t)) (back_split (low two c) (suc t) r j))
      ∙ ap (λ (x : ℕ). other_run two c us zs fars (back_at (low two c) x j) t (suc r)) (sym e)

  -- the cheaper price is the less of both
  pub low_both : (t z l : ℕ) → z ≤ bit (two t) → c t z l ≤ far → low two c t l ≡ min (c t z l) (turned two c z t l)
  unfolding low turned
  low_both t z l h few = go (two t) z h few
    where
      go : (w : Bool) (z : ℕ) → z ≤ bit w → c t z l ≤ far → cond w (min (c t 0 l) (c t 1 l)) (c t 0 l) ≡ min (c t z l) (cond w (c t (1 - z) l) far)
      go true zero h few = refl
      go true (suc zero) h few = omega arith
      go true (suc (suc z)) h few = absurd (omega arith)
      go false zero h few = omega arith
      go false (suc z) h few = absurd (omega arith)
