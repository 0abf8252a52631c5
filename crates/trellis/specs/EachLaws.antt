-- A rule of the numbers below n, proved at all of them by one test that antt computes.
use Rattle.std.specs.Prelude.{Bool, true, false, ◌&&◌, ℕ, zero, suc, ◌<◌, T}
use Rattle.std.proofs.Common.{arith, not-suc-le-zero, below_more}

pub both_left : (a b : Bool) → T (a && b) → T a
both_left true b t = tt
both_left false b t = absurd t

pub both_right : (a b : Bool) → T (a && b) → T b
both_right true b t = t
both_right false b t = absurd t

abbrev pub all : ℕ → (ℕ → Bool) → Bool
all zero f = true
all (suc n) f = f n && all n f

pub each : (n : ℕ) (f : ℕ → Bool) → T (all n f) → (k : ℕ) → k < n → T (f k)
each zero f t k h = absurd (not-suc-le-zero h)
each (suc n) f t k h =
    below_more (λ j. T (f j)) n (each n f (both_right (f n) (all n f) t)) (both_left (f n) (all n f) t) k (omega arith)
