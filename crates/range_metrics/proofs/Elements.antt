-- The elements of an array of f32 that a function is given are of that format.
use mathlib.Core.List.{List, [], ◌∷◌}
use Prim.Native.Nat.{ℕ, zero, suc}
use lib.Dec.{T}
use lib.ListN.{get_or}
use lib.Ieee.{Float, nan, binary32, fits}
use mir.Val.{Val}
use denote.Array.{each}
use denote.Floats.{FloatOf, passes}
use denote.Shadow.{shadow}

pub elem_fits : (xs : List Float) (us : List Val) (i : ℕ) → shadow (each Float (FloatOf binary32).own_val xs us) → T (fits binary32 (get_or xs i nan))
unfolding fits
elem_fits [] us i p = tt
elem_fits (x ∷ xs) [] i p = absurd p
elem_fits (x ∷ xs) (u ∷ us) zero p = passes (fits binary32 x) p.0.1
elem_fits (x ∷ xs) (u ∷ us) (suc i) p = elem_fits xs us i p.1
