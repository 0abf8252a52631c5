-- The point of C2 = 0 at a register, as it is worked out.
use mathlib.Core.Path.{◌≡◌, ◌∙◌, ap}
use mathlib.Core.Bool.{Bool}
use Prim.Native.Nat.{ℕ, ◌+◌, ◌*◌, ◌/◌, ◌%◌, ◌<◌}
use native.Mathlib.Omega.{arith}
use Rattle.trellis.specs.Code.{isdb, output}
use Rattle.isdbs_points.specs.declared.Cplx.{Cplx}
use Rattle.isdbs_points.specs.Points.{psk8_of, subset}
use Rattle.decode_c2.specs.Registers.{register_point}
use Rattle.isdbs_metrics.specs.DigitLaws.{label_is, outputs_small}
use Rattle.trellis.specs.Isdb

pub point_made : (y : Bool) (k a b l : ℕ) (p : Cplx) → k < 128 → a ≡ output isdb 0o171 (k / 64 % 2) (k % 64) → b ≡ output isdb 0o133 (k / 64 % 2) (k % 64)
    → l ≡ subset y ((2 * a + b) % 4) → l < 4 → p ≡ psk8_of (l % 8) → p ≡ register_point y k
point_made y k a b l p h is-a is_b is-l few is-p =
    let u : k / 64 % 2 ≡ k / 64 = omega arith in
    let small = outputs_small (k / 64 % 2) (k % 64) is-a is_b in
    let s0 = small.0 in
    let s1 = small.1 in
    let q : (2 * a + b) % 4 ≡ 2 * a + b = omega arith in
    let e : l % 8 ≡ l = omega arith in
    let lab : 2 * a + b ≡ Isdb.labels (k / 64) (k % 64) = label_is a b (k / 64 % 2) (k % 64) is-a is_b ∙ ap (λ (n : ℕ). Isdb.labels n (k % 64)) u in
    is-p ∙ ap psk8_of (e ∙ is-l ∙ ap (λ (n : ℕ). subset y n) (q ∙ lab))
