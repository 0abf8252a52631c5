-- The difference of two floats on a grid, by the sum.
use Rattle.std.specs.Prelude.{ℕ, suc, ◌+◌, ◌-◌, ◌^◌, ◌≤◌, ◌<◌, Float}
use Rattle.std.specs.Float.{Format}
use Rattle.std.specs.Float.Ieee.{prec, emax, low, sub}
use Rattle.ieee.specs.Whole.{On}
use Rattle.ieee.proofs.Whole.{add_on, on_neg}

pub sub_on : {f : Format} {x y : Float} (j : ℕ) {p n p' n' : ℕ} → On f x j p n → On f y j p' n' → prec f + j < low f + suc (emax f) → p + n' ≤ n + p' + 2 ^ prec f → n + p' ≤ p + n' + 2 ^ prec f
    → On f (sub f x y) j (p + n' - (n + p')) (n + p' - (p + n'))
unfolding sub
sub_on j s t l h k = add_on j s (on_neg t) l h k
