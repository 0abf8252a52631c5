-- The point of C2 = 0 at a register, as it is read.
use Rattle.std.specs.Prelude.{◌≡◌, Bool, List, ℕ, ◌+◌, ◌*◌, ◌/◌, ◌%◌, ◌<◌, get_or, Float}
use Rattle.std.proofs.Common.{◌∙◌, ap, arith}
use Rattle.std.specs.Float.{nan}
use Rattle.isdbs_points.specs.Points.{point, psk8_of, subset}
use Rattle.decode_c2.specs.Registers.{register_point, ByRegister}
use Rattle.trellis.specs.Isdb

pub point_read : (y : Bool) (xs ys : List Float) → ByRegister y xs ys → (u s : ℕ) → u < 2 → s < 64
    → point (get_or xs (64 * u + s) nan) (get_or ys (64 * u + s) nan) ≡ psk8_of (subset y (Isdb.labels u s))
point_read y xs ys t u s hu hs =
    let k = 64 * u + s in
    let h : k < 128 = omega arith in
    let a : k / 64 ≡ u = omega arith in
    let b : k % 64 ≡ s = omega arith in
    ap (λ (x : Float). point x (get_or ys k nan)) (t.re_at k h)
    ∙ ap (λ (x : Float). point (register_point y k).re x) (t.im_at k h)
    ∙ ap (λ (n : ℕ). psk8_of (subset y (Isdb.labels n (k % 64)))) a
    ∙ ap (λ (n : ℕ). psk8_of (subset y (Isdb.labels u n))) b
