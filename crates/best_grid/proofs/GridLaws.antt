-- Laws of the grid: costs are levels less grid numbers, and what a bit pattern has on the grid.
use Rattle.std.specs.Prelude.{◌≡◌, refl, Bool, true, false, cond, List, ℕ, ◌+◌, ◌-◌, ◌*◌, ◌/◌, ◌%◌, ◌^◌, ◌≤◌, ◌<◌, min, ℤ, leb, ltb, get_or, Float}
use Rattle.std.proofs.Common.{sym, ap, ◌∙◌, subst, inl, inr, div-mul-le_self, lt_of_lt_of_le, arith, leb-true, leb-false, ltb-true, ltb-false, lit≤, pow_mono, shl_lt}
use Rattle.std.proofs.Math.Nat.{lt-div-mul-add, zero-div}
use Rattle.std.specs.Float.{nan, binary32}
use Rattle.std.specs.Float.Ieee.{minus, of_bits}
use Rattle.std.specs.Float.Ieee.Exact.{HasValue, units_val}
use Rattle.ieee.proofs.Bits.{units_bits}
use Rattle.ieee.specs.Value.{hi, lo}
use Rattle.ieee.specs.Whole.{hi_z, lo_z}
use Rattle.best_grid.specs.Grid.{unit, most, level, above, below, grid, cost, grid_at, cost_at}
use Rattle.best_grid.proofs.Readings.{Costed}
use Rattle.best_grid.specs.Patterns.{magnitude}

-- ---- costs
record Minus (a b : ℕ) (z : ℤ) : Type 0 where
  is : hi_z z + b ≡ lo_z z + a
  high : hi_z z ≤ a
  deep : lo_z z ≤ b

minus_is : (a b : ℕ) → Minus a b (minus a b)
minus_is a b = go (leb b a) refl
  where
    go : (w : Bool) → leb b a ≡ w → Minus a b (minus a b)
    go true e = let h = leb-true b a e in rw e (record { is = omega arith; high = omega arith; deep = omega arith })
    go false e = let h = leb-false b a e in rw e (record { is = omega arith; high = omega arith; deep = omega arith })

pub at_most : (n : ℕ) → min most n ≤ most
at_most n = omega arith

-- a number of units that the grid holds, and none
pub capped : (n : ℕ) → n ≤ most → min most n ≡ n
capped n h = omega arith

pub none_capped : (a : ℕ) → a ≡ 0 → min most (a / unit) ≡ 0
none_capped a e = nothing (a / unit) (ap (λ (n : ℕ). n / unit) e ∙ zero-div unit)
  where
    nothing : (n : ℕ) → n ≡ 0 → min most n ≡ 0
    nothing n e = omega arith

-- a number cut to whole units
pub cut : (x u : ℕ) → 0 < u → (x / u * u ≤ x) × (x ≤ x / u * u + u)
cut x u h = let a = lt-div-mul-add {a = x} {b = u} h in (div-mul-le_self x u, omega arith)

pub above_most : (x : Float) → above x ≤ most
unfolding above
above_most x = at_most (hi binary32 x / unit)

pub below_most : (x : Float) → below x ≤ most
unfolding below
below_most x = at_most (lo binary32 x / unit)

pub cost_is : (x : Float) → cost x + hi_z (grid x) ≡ level + lo_z (grid x)
unfolding cost grid
cost_is x = let m = (minus_is (above x) (below x)).is in let a = above_most x in omega arith

pub grid_parts : (x : Float) → hi_z (grid x) + below x ≡ lo_z (grid x) + above x
unfolding grid
grid_parts x = (minus_is (above x) (below x)).is

pub costed : (q : ℕ → List Float) (n : ℕ) → Costed (grid_at q) (cost_at q) n
unfolding grid
costed q n = record {
  is = λ t l h k. cost_is (get_or (q t) l nan);
  high = λ t l h k. let x = get_or (q t) l nan in let m = (minus_is (above x) (below x)).high in let a = above_most x in omega arith;
  deep = λ t l h k. let x = get_or (q t) l nan in let m = (minus_is (above x) (below x)).deep in let a = below_most x in omega arith;
}

-- every cost lies within `most` of a level
pub cost_bounds : (x : Float) → (level - most ≤ cost x) × (cost x ≤ level + most)
unfolding cost
cost_bounds x = let a = above_most x in let b = below_most x in (omega arith, omega arith)

-- ---- bit patterns
pub pattern_value : (s : Bool) (b : ℕ) → b < 0x7f80_0000 → HasValue (of_bits binary32 (cond s 0x8000_0000 0 + b)) s (magnitude b) (2 ^ 149)
unfolding magnitude
pattern_value s b h = go (ltb b 0x7f80_0000) refl (ltb b 0x100_0000) refl
  where
    small : b < 0x100_0000 → HasValue (of_bits binary32 (cond s 0x8000_0000 0 + b)) s b (2 ^ 149)
    small l =
        let e : b * 2 ^ 0 ≡ b = omega arith in
        let a = units_bits binary32 s b 0 (omega arith) (inl refl) (lit≤ tt) in
        let z : 0 * 0x80_0000 + b ≡ b = omega arith in
        let v = units_val binary32 s b 0 (lt_of_lt_of_le (let y : b * 2 ^ 0 < 0x100_0000 = omega arith in y) (lit≤ tt)) in
        subst (λ (n : ℕ). HasValue (of_bits binary32 (cond s 0x8000_0000 0 + b)) s n (2 ^ 149)) e
        (subst (λ (x : Float). HasValue x s (b * 2 ^ 0) (2 ^ 149)) (sym a ∙ ap (λ (n : ℕ). of_bits binary32 (cond s 0x8000_0000 0 + n)) z) v)

    large : 0x100_0000 ≤ b → HasValue (of_bits binary32 (cond s 0x8000_0000 0 + b)) s ((b % 0x80_0000 + 0x80_0000) * 2 ^ (b / 0x80_0000 - 1)) (2 ^ 149)
    large l =
        let q = b % 0x80_0000 + 0x80_0000 in
        let k = b / 0x80_0000 - 1 in
        let z : k * 0x80_0000 + q ≡ b = omega arith in
        let a = units_bits binary32 s q k (omega arith) (inr (omega arith)) (omega arith) in
        let w : q < 2 ^ 24 = omega arith in
        let o : q * 2 ^ k < 2 ^ 277 = lt_of_lt_of_le (shl_lt 24 k w) (pow_mono {i = 24 + k} {j = 277} (omega arith)) in
        let v = units_val binary32 s q k o in
        subst (λ (x : Float). HasValue x s (q * 2 ^ k) (2 ^ 149)) (sym a ∙ ap (λ (n : ℕ). of_bits binary32 (cond s 0x8000_0000 0 + n)) z) v

    go : (v : Bool) → ltb b 0x7f80_0000 ≡ v → (w : Bool) → ltb b 0x100_0000 ≡ w
        → HasValue (of_bits binary32 (cond s 0x8000_0000 0 + b)) s (cond v (cond w b ((b % 0x80_0000 + 0x80_0000) * 2 ^ (b / 0x80_0000 - 1))) 0) (2 ^ 149)
    go false e w f = absurd (let x = ltb-false b 0x7f80_0000 e in omega arith)
    go true e true f = small (ltb-true b 0x100_0000 f)
    go true e false f = large (ltb-false b 0x100_0000 f)
