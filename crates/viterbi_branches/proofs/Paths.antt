-- A path is the candidate of its state, by the signs of its branch.
use mathlib.Core.Path.{◌≡◌}
use mathlib.Core.Bool.{cond}
use mathlib.Core.List.{List}
use Prim.Native.Nat.{ℕ, ◌+◌, ◌*◌, ◌/◌, ◌%◌, ◌<◌}
use native.Mathlib.Omega.{arith}
use lib.Dec.{eqb}
use lib.ListN.{get_or}
use lib.Ieee.{Float, nan, binary32, add, neg, lt, of_bits}
use Rattle.trellis.specs.Step as trellis
use Rattle.trellis.specs.Step.{pair}
use Rattle.trellis.specs.Isdb.{cand}
use Rattle.trellis.specs.Isdb

abbrev zero_f : Float
zero_f = of_bits binary32 0

-- the path from the state 2 j + b into the state 32 u + j
module _ (pm : List Float) (u b j : ℕ) (h : j < 32) where
  at_j : (32 * u + j) % 32 ≡ j
  at_j = omega arith

  at_u : (32 * u + j) / 32 ≡ u
  at_u = omega arith

  -- by the signs x and y of its branch
  pub pair_cand : (x y : Float) → lt x zero_f ≡ eqb (Isdb.labels u (2 * j + b) / 2) 1 → lt y zero_f ≡ eqb (Isdb.labels u (2 * j + b) % 2) 1
      → (lx ly p q : Float) → p ≡ cond (lt x zero_f) (neg lx) lx → q ≡ cond (lt y zero_f) (neg ly) ly
      → add binary32 (add binary32 (get_or pm (2 * j + b) nan) p) q ≡ cand pm (pair lx ly) (32 * u + j) b
  unfolding trellis.cand trellis.branch
  pair_cand x y is_x is_y lx ly p q is-p is-q = rw (is-p, is-q, at_j, at_u, is_x, is_y)
