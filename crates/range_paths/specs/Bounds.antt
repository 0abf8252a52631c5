-- Bounds that are multiples of 512 pass through every rounding: up to 2 ^ 24 of them the format holds them, and rounding never crosses a held value.
-- So a sum of two bounded values is bounded by the sum of the bounds, with no error to count.
use Rattle.std.specs.Prelude.{ℕ, ◌+◌, ◌*◌, ◌≤◌, Float}
use Rattle.std.proofs.Common.{add-mul, mul-le-mul_right, arith, lit<, lit≤}
use Rattle.std.specs.Float.{binary32}
use Rattle.std.specs.Float.Ieee.{neg, add, sub}
use Rattle.ieee.specs.Value.{hi, lo, Num, hi_neg, lo_neg, num_neg}
use Rattle.ieee.specs.Order.{Le}
use Rattle.ieee.specs.Rounding.{pow2, fine_pow2}
use Rattle.ieee.proofs.Sums.{add_rounds, sub_rounds}
use Rattle.ieee.proofs.Bounds.{rounds_cap, rounds_floor}

-- 512, in units of 2 ^ -149
abbrev pub U : ℕ
U = pow2 158

-- the most multiples of 512 that the format holds, one by one
abbrev pub most : ℕ
most = 16777216

-- 1.0e9, the value that a ruled out state is set to, without its sign
abbrev pub ruled_out : ℕ
ruled_out = 1953125

-- x is -512 a or more; 512 b or less
abbrev pub Above : Float → ℕ → Type 0
Above x a = lo binary32 x ≤ hi binary32 x + a * U

abbrev pub Below : Float → ℕ → Type 0
Below x b = hi binary32 x ≤ lo binary32 x + b * U

-- a number from -512 a to 512 b
pub record Within (x : Float) (a b : ℕ) : Type 0 where
  pub num : Num binary32 x
  pub low : Above x a
  pub high : Below x b

pub above_more : (x : Float) (a a' : ℕ) → a ≤ a' → Above x a → Above x a'
above_more x a a' h w = let p = mul-le-mul_right U h in omega arith

pub below_more : (x : Float) (b b' : ℕ) → b ≤ b' → Below x b → Below x b'
below_more x b b' h w = let p = mul-le-mul_right U h in omega arith

pub wider : (x : Float) (a b a' b' : ℕ) → a ≤ a' → b ≤ b' → Within x a b → Within x a' b'
wider x a b a' b' h k w = record { num = w.num; low = above_more x a a' h w.low; high = below_more x b b' k w.high }

pub within_neg : (x : Float) (d : ℕ) → Within x d d → Within (neg x) d d
within_neg x d w =
    let h = hi_neg binary32 x in
    let l = lo_neg binary32 x in
    let a = w.low in
    let b = w.high in
    record { num = num_neg w.num; low = omega arith; high = omega arith }

-- ---- a sum: z is x and at most 512 d more or less
pub record Adds (x z : Float) (d : ℕ) : Type 0 where
  pub num : Num binary32 z
  pub low : (q : ℕ) → q + d ≤ most → Above x q → Above z (q + d)
  pub high : (q : ℕ) → q + d ≤ most → Below x q → Below z (q + d)

pub adds : (x y : Float) (a b d : ℕ) → Within x a b → Within y d d → a ≤ most → b ≤ most → d ≤ most → Adds x (add binary32 x y) d
adds x y a b d w v A B D =
    let p = mul-le-mul_right U A in
    let q = mul-le-mul_right U B in
    let s = mul-le-mul_right U D in
    let xl = w.low in
    let xh = w.high in
    let yl = v.low in
    let yh = v.high in
    let r = add_rounds binary32 x y w.num v.num (fine_pow2 binary32 158 (hi binary32 x + hi binary32 y) (lo binary32 x + lo binary32 y) (lit< tt) (omega arith) (omega arith)) in
    record {
      num = r.num;
      low = λ q h l. let e = add-mul q d U in let f = rounds_floor (q + d) 158 r h (omega arith) in omega arith;
      high = λ q h l. let e = add-mul q d U in let f = rounds_cap (q + d) 158 r h (omega arith) in omega arith;
    }

-- what is not below 0 takes nothing
pub raised : (x y : Float) (a b d q : ℕ) → Within x a b → Within y d d → Above y 0 → a ≤ most → b ≤ most → d ≤ most → q ≤ most → Above x q → Above (add binary32 x y) q
raised x y a b d q w v u A B D Q l =
    let p = mul-le-mul_right U A in
    let k = mul-le-mul_right U B in
    let s = mul-le-mul_right U D in
    let xl = w.low in
    let xh = w.high in
    let yl = v.low in
    let yh = v.high in
    let r = add_rounds binary32 x y w.num v.num (fine_pow2 binary32 158 (hi binary32 x + hi binary32 y) (lo binary32 x + lo binary32 y) (lit< tt) (omega arith) (omega arith)) in
    let f = rounds_floor q 158 r Q (omega arith) in
    omega arith

-- two sums in a row
pub adds_twice : {x y z : Float} {d e : ℕ} → Adds x y d → Adds y z e → Adds x z (d + e)
adds_twice {x} {y} {z} {d} {e} f g = record {
  num = g.num;
  low = λ q h l. above_more z (q + d + e) (q + (d + e)) (omega arith) (g.low (q + d) (omega arith) (f.low q (omega arith) l));
  high = λ q h l. below_more z (q + d + e) (q + (d + e)) (omega arith) (g.high (q + d) (omega arith) (f.high q (omega arith) l));
}

-- the bounds of the sum
pub adds_within : {x z : Float} {d : ℕ} (a b : ℕ) → Adds x z d → Within x a b → a + d ≤ most → b + d ≤ most → Within z (a + d) (b + d)
adds_within a b f w h k = record { num = f.num; low = f.low a h w.low; high = f.high b k w.high }

-- ---- a difference: y, at most 512 j, is taken from x, which is not above y
pub record Takes (x y z : Float) (j : ℕ) : Type 0 where
  pub num : Num binary32 z
  pub low : (q : ℕ) → q + j ≤ most → Above x q → Above z (q + j)
  pub high : Below z 0
  pub same : Le binary32 y x → Above z 0

pub takes : (x y : Float) (a b j : ℕ) → Within x a b → Within y a j → a ≤ most → b ≤ most → j ≤ most → Le binary32 x y → Takes x y (sub binary32 x y) j
takes x y a b j w v A B J le =
    let p = mul-le-mul_right U A in
    let q = mul-le-mul_right U B in
    let s = mul-le-mul_right U J in
    let xl = w.low in
    let xh = w.high in
    let yl = v.low in
    let yh = v.high in
    let r = sub_rounds binary32 x y w.num v.num (fine_pow2 binary32 158 (hi binary32 x + lo binary32 y) (lo binary32 x + hi binary32 y) (lit< tt) (omega arith) (omega arith)) in
    record {
      num = r.num;
      low = λ q h l. let e = add-mul q j U in let f = rounds_floor (q + j) 158 r h (omega arith) in omega arith;
      high = let f = rounds_cap 0 158 r (lit≤ tt) (omega arith) in omega arith;
      same = λ g. let f = rounds_floor 0 158 r (lit≤ tt) (omega arith) in omega arith;
    }
