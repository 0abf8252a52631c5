-- Metrics in order, and metrics that are apart, on the grid.
use Rattle.std.specs.Prelude.{◌≡◌, ◌⊎◌, ℕ, ◌+◌, ◌*◌, ◌/◌, ◌≤◌, ◌<◌, min, Float}
use Rattle.std.proofs.Common.{ap, ◌∙◌, subst, inl, inr, div-mul-le_self, lt_of_mul-lt-mul_right, arith, pow_pos}
use Rattle.std.proofs.Math.Nat.{lt-div-mul-add, zero-div}
use Rattle.std.specs.Float.{binary32}
use Rattle.ieee.specs.Value.{hi, lo, one_side}
use Rattle.ieee.specs.Order.{Le}
use Rattle.ieee.specs.Rounding.{pow2, pow2_is, pow2_add}
use Rattle.path_lead.specs.Favour.{Above, margin}
use Rattle.best_grid.specs.Grid.{unit, most, above, below}
use Rattle.best_grid.proofs.GridLaws.{capped}

-- by how much a load leads within its margins, at least: the margin of 7 in units of 2 ^ -20, less one for the cuts
abbrev pub least : ℕ
least = 7340031

none_of : (u n : ℕ) → n ≡ 0 → n / u ≡ 0
none_of u n e = ap (λ (k : ℕ). k / u) e ∙ zero-div u

up_div : (u a b : ℕ) → 0 < u → a ≤ b → a / u ≤ b / u
up_div u a b p h =
    let x = div-mul-le_self a u in
    let y = lt-div-mul-add {a = b} {b = u} p in
    let e : (b / u + 1) * u ≡ b / u * u + u = one_more (b / u) u in
    let l = lt_of_mul-lt-mul_right u {m = a / u} {n = b / u + 1} (omega arith) in
    omega arith
  where
    one_more : (q u : ℕ) → (q + 1) * u ≡ q * u + u
    one_more q u = omega arith

-- ---- the smaller is not the greater on the grid
ordered : (u hx lx hy ly : ℕ) → 0 < u → (hx ≡ 0) ⊎ (lx ≡ 0) → (hy ≡ 0) ⊎ (ly ≡ 0) → hy + lx ≤ hx + ly → min most (hy / u) + min most (lx / u) ≤ min most (hx / u) + min most (ly / u)
ordered u hx lx hy ly p (inl a) (inl b) h = let z = none_of u hy b in let q = up_div u lx ly p (omega arith) in omega arith
ordered u hx lx hy ly p (inl a) (inr b) h = let z = none_of u hy (omega arith) in let w = none_of u lx (omega arith) in omega arith
ordered u hx lx hy ly p (inr a) (inl b) h = let z = none_of u hy b in let w = none_of u lx a in omega arith
ordered u hx lx hy ly p (inr a) (inr b) h = let w = none_of u lx a in let q = up_div u hy hx p (omega arith) in omega arith

pub grid_ordered : (x y : Float) → Le binary32 y x → above y + below x ≤ above x + below y
unfolding above below
grid_ordered x y h = ordered unit (hi binary32 x) (lo binary32 x) (hi binary32 y) (lo binary32 y) (pow_pos 129) (one_side binary32 x) (one_side binary32 y) h

-- ---- what is so far apart is so on the grid, but for one unit
cut_gap : (u A B C D hx ly hy lx k : ℕ) → hx < A * u + u → ly < B * u + u → C * u ≤ hy → D * u ≤ lx → hy + lx + (k * u + u) ≤ hx + ly → C + D + k ≤ A + B
cut_gap u A B C D hx ly hy lx k a b c d h =
    let x : (C + D + k + 1) * u ≡ C * u + D * u + k * u + u = omega arith in
    let y : (A + B + 2) * u ≡ A * u + B * u + u + u = omega arith in
    let l : (C + D + k + 1) * u < (A + B + 2) * u = omega arith in
    let m = lt_of_mul-lt-mul_right u {m = C + D + k + 1} {n = A + B + 2} l in
    omega arith

parted : (u hx lx hy ly k : ℕ) → 0 < u → hx / u ≤ most → lx / u ≤ most → hy / u ≤ most → ly / u ≤ most → hy + lx + (k * u + u) ≤ hx + ly
    → min most (hy / u) + min most (lx / u) + k ≤ min most (hx / u) + min most (ly / u)
parted u hx lx hy ly k p a b c d h =
    rw (capped (hx / u) a, capped (lx / u) b, capped (hy / u) c, capped (ly / u) d)
    (cut_gap u (hx / u) (ly / u) (hy / u) (lx / u) hx ly hy lx k (lt-div-mul-add {a = hx} {b = u} p) (lt-div-mul-add {a = ly} {b = u} p) (div-mul-le_self hy u) (div-mul-le_self lx u) h)

seven : (u : ℕ) → 7 * (1048576 * u) ≡ 7340031 * u + u
seven u = omega arith

in_units : 7 * pow2 149 ≡ least * unit + unit
in_units = ap (λ (z : ℕ). 7 * z) (pow2_add 20 129 ∙ ap (λ (z : ℕ). 1048576 * z) (pow2_is 129)) ∙ seven unit

-- no metric is beyond what the grid holds
abbrev pub Holds : Float → Type 0
Holds x = (hi binary32 x / unit ≤ most) × (lo binary32 x / unit ≤ most)

pub grid_apart : (x y : Float) → Holds x → Holds y → Above margin x y → above y + below x + least ≤ above x + below y
unfolding above below
grid_apart x y p q h =
    parted unit (hi binary32 x) (lo binary32 x) (hi binary32 y) (lo binary32 y) least (pow_pos 129) p.0 p.1 q.0 q.1
    (subst (λ (n : ℕ). hi binary32 y + lo binary32 x + n ≤ hi binary32 x + lo binary32 y) in_units h)
