-- "Input u at state s gives parities of (64u+s) under 171 and 133 octal and goes to 32u + s/2 (rounded down)": the shift register's outputs are these
-- parities. One computed test over the 128 numbers.
use Rattle.std.specs.Prelude.{◌≡◌, refl, Bool, ◌&&◌, ℕ, ◌+◌, ◌*◌, ◌/◌, ◌%◌, ◌<◌, T, eqb}
use Rattle.std.proofs.Common.{arith, eqb→eq}
use Rattle.std.specs.Float.Ieee.Fits.{and_l, and_r}
use Rattle.trellis.specs.Code.{isdb, half, tapped, output, moved}
use Rattle.trellis.specs.ListLaws.{every, every_at}
use Rattle.trellis.specs.Parity.{ones, parity}

alike : ℕ → ℕ → Bool
alike g x = eqb (output isdb g (x / 64) (x % 64)) (parity g x)

test : ℕ → Bool
test x = alike 0o171 x && alike 0o133 x

passes : T (every test 128)
unfolding every test alike output tapped parity ones
passes = tt

at : (g u s : ℕ) → s < 64 → T (alike g (64 * u + s)) → output isdb g u s ≡ parity g (64 * u + s)
unfolding alike
at g u s h t =
    let d : (64 * u + s) / 64 ≡ u = omega arith in
    let m : (64 * u + s) % 64 ≡ s = omega arith in
    rw (d, m) at (eqb→eq (output isdb g ((64 * u + s) / 64) ((64 * u + s) % 64)) (parity g (64 * u + s)) t)

pub output_parity : (u s : ℕ) → u < 2 → s < 64 → (output isdb 0o171 u s ≡ parity 0o171 (64 * u + s)) × (output isdb 0o133 u s ≡ parity 0o133 (64 * u + s))
unfolding test
output_parity u s l h =
    let x = 64 * u + s in
    let t = every_at test 128 passes x (omega arith) in
    (at 0o171 u s h (and_l (alike 0o171 x) (alike 0o133 x) t), at 0o133 u s h (and_r (alike 0o171 x) (alike 0o133 x) t))

pub next_state_lem : (u s : ℕ) → (moved (half isdb) u s ≡ (64 * u + s) / 2) × (moved (half isdb) u s ≡ 32 * u + s / 2)
next_state_lem u s = (omega arith, refl)
