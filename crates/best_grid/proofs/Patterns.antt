-- What an f32 has on the grid, from its bit pattern: digits of it, moved up or down.
use Rattle.std.specs.Prelude.{◌≡◌, Bool, true, false, not, cond, T, ltb, Float}
use Rattle.std.proofs.Math.Path.{refl}
use Rattle.std.proofs.Common.{sym, ap, ◌∙◌, subst, mul-div_cancel, mul_assoc, le_trans, mul-le-mul_right, lt_of_lt_of_le, arith, nltb→le, lit≤, pow-add, pow_pos, pow_mono, shl_lt}
use Prim.Native.Nat.{ℕ, ◌+◌, ◌-◌, ◌*◌, ◌/◌, ◌%◌, ◌^◌, ◌≤◌, ◌<◌, min}
use Rattle.std.proofs.Math.Nat.{mul-div-mul_right, div-eq_of_lt}
use borrow.Author.Tests.{ltb-true, ltb-false, lt-ltb, le-ltb}
use Rattle.std.proofs.lemmas.Nat.{shr_le}
use Rattle.std.specs.Float.{nan, inf}
use Rattle.std.specs.Float.Ieee.{binary32, is_nan, fits, of_bits, to_bits}
use Rattle.std.specs.Float.Ieee.Bits.{of_bits-to_bits, to_bits-lt, nan_bits_is, nan_bits_above}
use Rattle.ieee.proofs.Bits.{inf_bits}
use Rattle.ieee.specs.Value.{hi, lo, hi_of, lo_of}
use Rattle.best_grid.specs.Grid.{unit, most, level, above, below, cost}
use Rattle.best_grid.proofs.GridLaws.{at_most, none_capped, pattern_value}
use Rattle.best_grid.specs.Patterns.{magnitude}
use Rattle.best_grid.specs.Patterns.{units_of}

-- ---- by the exponent's field
capped_as : (n r : ℕ) → n ≡ r → r ≤ most → min most n ≡ r
capped_as n r e h = omega arith

full : (n : ℕ) → most ≤ n → min most n ≡ most
full n h = omega arith

-- the magnitude of a pattern from 2 ^ 24 on: digits times a power
magnitude_at : (b : ℕ) → 0x100_0000 ≤ b → b < 0x7f80_0000 → magnitude b ≡ (b % 0x80_0000 + 0x80_0000) * 2 ^ (b / 0x80_0000 - 1)
unfolding magnitude
magnitude_at b l h = rw (lt-ltb b 0x7f80_0000 h, le-ltb b 0x100_0000 l) refl

magnitude_small : (b : ℕ) → b < 0x100_0000 → magnitude b ≡ b
unfolding magnitude
magnitude_small b l = let h : b < 0x7f80_0000 = omega arith in rw (lt-ltb b 0x7f80_0000 h, lt-ltb b 0x100_0000 l) refl

magnitude_inf : (b : ℕ) → 0x7f80_0000 ≤ b → magnitude b ≡ 0
unfolding magnitude
magnitude_inf b h = rw (le-ltb b 0x7f80_0000 h) refl

-- digits moved down, and up
moved_down : (q k j p : ℕ) → k + j ≡ p → q * 2 ^ k / 2 ^ p ≡ q / 2 ^ j
moved_down q k j p e =
    let a : 2 ^ p ≡ 2 ^ j * 2 ^ k = ap (λ (x : ℕ). 2 ^ x) (let y : p ≡ j + k = omega arith in y) ∙ pow-add 2 j k in
    ap (λ (x : ℕ). q * 2 ^ k / x) a ∙ mul-div-mul_right q (2 ^ j) (pow_pos k)

moved_up : (q k j p : ℕ) → k ≡ j + p → q * 2 ^ k / 2 ^ p ≡ q * 2 ^ j
moved_up q k j p e =
    ap (λ (x : ℕ). q * x / 2 ^ p) (ap (λ (x : ℕ). 2 ^ x) e ∙ pow-add 2 j p)
    ∙ ap (λ (x : ℕ). x / 2 ^ p) (sym (mul_assoc q (2 ^ j) (2 ^ p)))
    ∙ mul-div_cancel (q * 2 ^ j) (pow_pos p)

none : (b n : ℕ) → magnitude b ≡ n → n < unit → units_of b ≡ 0
unfolding units_of
none b n e h = capped_as (magnitude b / unit) 0 (ap (λ (x : ℕ). x / unit) e ∙ div-eq_of_lt h) (omega arith)

pub units_none : (b : ℕ) → b / 0x80_0000 < 107 → units_of b ≡ 0
units_none b h = go (ltb b 0x100_0000) refl
  where
    go : (w : Bool) → ltb b 0x100_0000 ≡ w → units_of b ≡ 0
    go true e = none b b (magnitude_small b (ltb-true b 0x100_0000 e)) (lt_of_lt_of_le (ltb-true b 0x100_0000 e) (lit≤ tt))
    go false e =
        let l = ltb-false b 0x100_0000 e in
        let q = b % 0x80_0000 + 0x80_0000 in
        let k = b / 0x80_0000 - 1 in
        let w : q < 2 ^ 24 = omega arith in
        none b (q * 2 ^ k) (magnitude_at b l (omega arith)) (lt_of_lt_of_le (shl_lt 24 k w) (pow_mono {i = 24 + k} {j = 129} (omega arith)))

pub units_inf : (b : ℕ) → 0x7f80_0000 ≤ b → units_of b ≡ 0
units_inf b h = none b 0 (magnitude_inf b h) (lit≤ tt)

pub units_down : (b : ℕ) → 107 ≤ b / 0x80_0000 → b / 0x80_0000 < 130 → units_of b ≡ (b % 0x80_0000 + 0x80_0000) / 2 ^ (130 - b / 0x80_0000)
unfolding units_of
units_down b l h =
    let q = b % 0x80_0000 + 0x80_0000 in
    let j = 130 - b / 0x80_0000 in
    let s = shr_le q j in
    capped_as (magnitude b / unit) (q / 2 ^ j)
    (ap (λ (x : ℕ). x / unit) (magnitude_at b (omega arith) (omega arith)) ∙ moved_down q (b / 0x80_0000 - 1) j 129 (omega arith))
    (bound q (q / 2 ^ j) s (omega arith))
  where
    bound : (q x : ℕ) → x ≤ q → q < 0x100_0000 → x ≤ most
    bound q x a b = omega arith

pub units_up : (b : ℕ) → 130 ≤ b / 0x80_0000 → b ≤ 0x4b00_0000 → units_of b ≡ (b % 0x80_0000 + 0x80_0000) * 2 ^ (b / 0x80_0000 - 130)
unfolding units_of
units_up b l h =
    let q = b % 0x80_0000 + 0x80_0000 in
    let j = b / 0x80_0000 - 130 in
    capped_as (magnitude b / unit) (q * 2 ^ j)
    (ap (λ (x : ℕ). x / unit) (magnitude_at b (omega arith) (omega arith)) ∙ moved_up q (b / 0x80_0000 - 1) j 129 (omega arith))
    (fits_in (b / 0x80_0000 - 130) (ltb (b / 0x80_0000) 150) refl)
  where
    fits_in : (j : ℕ) → (w : Bool) → ltb (b / 0x80_0000) 150 ≡ w → (b % 0x80_0000 + 0x80_0000) * 2 ^ (b / 0x80_0000 - 130) ≤ most
    fits_in j true e =
        let f = ltb-true (b / 0x80_0000) 150 e in
        let q = b % 0x80_0000 + 0x80_0000 in
        let w : q ≤ 2 ^ 24 = omega arith in
        let i = b / 0x80_0000 - 130 in
        let p : 2 ^ i ≤ 2 ^ 19 = pow_mono {i = i} {j = 19} (omega arith) in
        le_trans (mul-le-mul_right (2 ^ i) w) (let z : 16777216 * 2 ^ i ≤ most = omega arith in z)
    fits_in j false e =
        let f = ltb-false (b / 0x80_0000) 150 e in
        let i : b / 0x80_0000 - 130 ≡ 20 = omega arith in
        let m : b % 0x80_0000 ≡ 0 = omega arith in
        rw (i, m) (lit≤ tt)

pub units_most : (b : ℕ) → 0x4b00_0000 ≤ b → b < 0x7f80_0000 → units_of b ≡ most
unfolding units_of
units_most b l h =
    let q = b % 0x80_0000 + 0x80_0000 in
    let j = b / 0x80_0000 - 130 in
    full (magnitude b / unit)
    (subst (λ (x : ℕ). most ≤ x) (sym (ap (λ (x : ℕ). x / unit) (magnitude_at b (omega arith) h) ∙ moved_up q (b / 0x80_0000 - 1) j 129 (omega arith)))
    (let p : 2 ^ 20 ≤ 2 ^ j = pow_mono {i = 20} {j = j} (omega arith) in
    let w : 0x80_0000 ≤ q = omega arith in
    le_trans (let z : most ≤ 0x80_0000 * 2 ^ j = omega arith in z) (mul-le-mul_right (2 ^ j) w)))

-- ---- a float's
number_inf : (x : Float) → T (fits binary32 x) → T (not (is_nan x)) → to_bits binary32 x % 0x8000_0000 ≤ 0x7f80_0000
number_inf x t n =
    nltb→le 0x7f80_0000 (to_bits binary32 x % 0x8000_0000)
    (subst (λ (b : Bool). T (not b)) (sym (nan_bits_is binary32 (to_bits binary32 x) ∙ ap is_nan (of_bits-to_bits binary32 x t)) ∙ nan_bits_above binary32 (to_bits binary32 x)) n)

pub record Gridded (x : Float) : Type 0 where
  pub high : above x ≡ cond (ltb (to_bits binary32 x) 0x8000_0000) (units_of (to_bits binary32 x % 0x8000_0000)) 0
  pub deep : below x ≡ cond (ltb (to_bits binary32 x) 0x8000_0000) 0 (units_of (to_bits binary32 x % 0x8000_0000))

zeros : (s : Bool) → (hi binary32 (inf s) ≡ cond s 0 0) × (lo binary32 (inf s) ≡ cond s 0 0)
unfolding hi lo
zeros true = (refl, refl)
zeros false = (refl, refl)

module _ (x : Float) (t : T (fits binary32 x)) (n : T (not (is_nan x))) where
  abbrev b : ℕ
  b = to_bits binary32 x % 0x8000_0000

  -- with the sign s
  signed : (s : Bool) → cond s 0x8000_0000 0 + b ≡ to_bits binary32 x → (hi binary32 x ≡ cond s 0 (magnitude b)) × (lo binary32 x ≡ cond s (magnitude b) 0)
  signed s e = go (ltb b 0x7f80_0000) refl
    where
      same : of_bits binary32 (cond s 0x8000_0000 0 + b) ≡ x
      same = ap (λ (y : ℕ). of_bits binary32 y) e ∙ of_bits-to_bits binary32 x t

      go : (w : Bool) → ltb b 0x7f80_0000 ≡ w → (hi binary32 x ≡ cond s 0 (magnitude b)) × (lo binary32 x ≡ cond s (magnitude b) 0)
      go true f =
          let v = pattern_value s b (ltb-true b 0x7f80_0000 f) in (
            ap (λ (y : Float). hi binary32 y) (sym same) ∙ hi_of binary32 (of_bits binary32 (cond s 0x8000_0000 0 + b)) s (magnitude b) v,
            ap (λ (y : Float). lo binary32 y) (sym same) ∙ lo_of binary32 (of_bits binary32 (cond s 0x8000_0000 0 + b)) s (magnitude b) v,
          )
      go false f =
          let a = ltb-false b 0x7f80_0000 f in
          let i = number_inf x t n in
          let at : b ≡ 0x7f80_0000 = omega arith in
          let is-inf : x ≡ inf s = sym same ∙ ap (λ (y : ℕ). of_bits binary32 (cond s 0x8000_0000 0 + y)) at ∙ inf_bits binary32 s in
          let z = zeros s in
          let m = magnitude_inf b a in (
            ap (λ (y : Float). hi binary32 y) is-inf ∙ z.0 ∙ ap (λ (y : ℕ). cond s 0 y) (sym m),
            ap (λ (y : Float). lo binary32 y) is-inf ∙ z.1 ∙ ap (λ (y : ℕ). cond s y 0) (sym m),
          )

  pub gridded : Gridded x
  unfolding above below units_of
  gridded = go (ltb (to_bits binary32 x) 0x8000_0000) refl
    where
      nothing : min most (0 / unit) ≡ 0
      nothing = none_capped 0 refl

      go : (w : Bool) → ltb (to_bits binary32 x) 0x8000_0000 ≡ w → Gridded x
      go true e =
          let l = ltb-true (to_bits binary32 x) 0x8000_0000 e in
          let s = signed false (omega arith) in
          record { high = rw (e, s.0) refl; deep = rw (e, s.1) nothing }
      go false e =
          let l = ltb-false (to_bits binary32 x) 0x8000_0000 e in
          let u = to_bits-lt binary32 x t in
          let s = signed true (omega arith) in
          record { high = rw (e, s.0) nothing; deep = rw (e, s.1) refl }

-- ---- costs
pub units_at_most : (b : ℕ) → units_of b ≤ most
unfolding units_of
units_at_most b = at_most (magnitude b / unit)

pub cost_nan : cost nan ≡ level
unfolding cost above below hi lo
cost_nan = refl

module _ (x : Float) (t : T (fits binary32 x)) (n : T (not (is_nan x))) where
  -- no sign, and a sign
  pub cost_plus : to_bits binary32 x < 0x8000_0000 → cost x ≡ level - units_of (to_bits binary32 x % 0x8000_0000)
  unfolding cost
  cost_plus h =
      let g = gridded x t n in
      let e = lt-ltb (to_bits binary32 x) 0x8000_0000 h in
      let a : above x ≡ units_of (to_bits binary32 x % 0x8000_0000) = rw e at g.high in
      let b : below x ≡ 0 = rw e at g.deep in
      rw (a, b) (omega arith)

  pub cost_minus : 0x8000_0000 ≤ to_bits binary32 x → cost x ≡ level + units_of (to_bits binary32 x % 0x8000_0000)
  unfolding cost
  cost_minus h =
      let g = gridded x t n in
      let e = le-ltb (to_bits binary32 x) 0x8000_0000 h in
      let a : above x ≡ 0 = rw e at g.high in
      let b : below x ≡ units_of (to_bits binary32 x % 0x8000_0000) = rw e at g.deep in
      rw (a, b) (omega arith)
