-- The taps of ITU-R BO.1408-1, Fig. 13, as the Rust reads it: what X and Y sum.
use Rattle.std.specs.Prelude.{◌≡◌, ℕ, ◌+◌, ◌%◌}
use Rattle.std.proofs.Common.{arith}
use Rattle.trellis.specs.Code.{isdb, stage, tapped, output}

-- X sums the input and the stages 1, 2, 3 and 6, modulo 2
pub x_taps : (u s : ℕ) → output isdb isdb.g1 u s ≡ (u + stage isdb s 1 + stage isdb s 2 + stage isdb s 3 + stage isdb s 6) % 2
unfolding output tapped
x_taps u s = omega arith

-- Y sums the input and the stages 2, 3, 5 and 6, modulo 2
pub y_taps : (u s : ℕ) → output isdb isdb.g2 u s ≡ (u + stage isdb s 2 + stage isdb s 3 + stage isdb s 5 + stage isdb s 6) % 2
unfolding output tapped
y_taps u s = omega arith
