-- The steps by a list of places are those of the puncturing.
use Rattle.std.specs.Prelude.{◌≡◌, List, ℕ, ◌+◌, ◌*◌, ◌/◌, ◌%◌, ◌≤◌, Float}
use Rattle.std.proofs.Common.{sym, mod-lt, arith}
use Rattle.isdbt_steps.specs.Soft.{soft_by, steps_by, Placed, placed_by, placed_steps}

module _ (period n : ℕ) (order places : List ℕ) (llrs : List Float) (least : 1 ≤ period) (most : period ≤ 7) (p : Placed n order places) where
  placed_soft : (m : ℕ) → placed_by period n places llrs m ≡ soft_by period n order llrs m
  placed_soft m =
      let below = mod-lt m {m = 2 * period} (omega arith) in
      p (m % (2 * period)) (omega arith) llrs (n * (m / (2 * period)))

  pub placed_steps_lem : (k : ℕ) → placed_steps period n places llrs k ≡ steps_by period n order llrs k
  placed_steps_lem k = let x = placed_soft (2 * k) in let y = placed_soft (2 * k + 1) in cc
